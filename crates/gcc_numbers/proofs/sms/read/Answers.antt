-- `gcc_numbers::sms::read` meets its contract. Assumes nothing.
use mathlib.Core.Path.{refl}
use Rattle.csn1.proofs.Writing.{flag_byte}
use Rattle.gcc_numbers.proofs.sms.read.Goals as goal

pub returns : goal.returns
returns c = rw (← c.read-m.ensures) (refl, simp flag_byte at c.store.ensures)

-- `gcc_numbers::message_type::read` meets its contract. Assumes nothing.
use mathlib.Core.Path.{refl}
use Rattle.csn1.proofs.Writing.{flag_byte}
use Rattle.gcc_numbers.proofs.message_type.read.Goals as goal

pub returns : goal.returns
returns c =
    rw (← c.read-m.ensures) (refl, simp (flag_byte, c.number_of.ensures) at c.store.ensures)

-- `gcc_numbers::talker::read` meets its contract. Assumes nothing.
use mathlib.Core.Path.{refl}
use Rattle.gcc_numbers.proofs.talker.read.Goals as goal

pub returns : goal.returns
returns c = rw (← c.read-m.ensures) (refl, rw c.write.ensures at c.store.ensures)

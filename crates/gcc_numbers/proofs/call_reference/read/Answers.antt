-- `gcc_numbers::call_reference::read` meets its contract. Assumes nothing.
use mathlib.Core.Path.{refl}
use Rattle.gcc_numbers.proofs.call_reference.read.Goals as goal

pub returns : goal.returns
returns c =
    rw (← c.read-m.ensures) (refl, rw c.number_of-n.ensures at c.store.ensures)

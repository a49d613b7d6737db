-- `uplink_lent::free_stays` meets its contract. Assumes nothing.
use mathlib.Core.Path.{refl}
use Rattle.uplink_lent.proofs.free_stays.Goals as goal

pub returns-in-Tick : goal.returns-in-Tick
returns-in-Tick c = rw c.in-Tick.is refl

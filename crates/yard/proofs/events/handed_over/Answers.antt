-- `yard::events::handed_over` meets its contract. Assumes nothing.
use mathlib.Core.Path.{refl}
use Rattle.receiver.specs.Step.{handed_over}
use Rattle.yard.proofs.Feeding.{not_taken_as}
use Rattle.yard.proofs.events.handed_over.Goals as goal

pub returns : goal.returns
returns c = let a = c.args in not_taken_as a.b.now (handed_over a.time) _ refl c.not_taken.ensures

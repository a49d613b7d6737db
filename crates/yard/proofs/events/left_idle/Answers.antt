-- `yard::events::left_idle` meets its contract. Assumes nothing.
use mathlib.Core.Path.{refl}
use Rattle.receiver.specs.Step.{left_idle}
use Rattle.yard.proofs.Feeding.{not_taken_as}
use Rattle.yard.proofs.events.left_idle.Goals as goal

pub returns : goal.returns
returns c = let a = c.args in not_taken_as a.b.now (left_idle a.time) _ refl c.not_taken.ensures

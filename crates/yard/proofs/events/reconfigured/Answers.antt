-- `yard::events::reconfigured` meets its contract. Assumes nothing.
use mathlib.Core.Path.{refl}
use Rattle.receiver.specs.Step.{reconfigured}
use Rattle.yard.proofs.Feeding.{not_taken_as}
use Rattle.yard.proofs.events.reconfigured.Goals as goal

pub returns : goal.returns
returns c = let a = c.args in not_taken_as a.b.now (reconfigured a.time) _ refl c.not_taken.ensures

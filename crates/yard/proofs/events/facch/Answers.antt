-- `yard::events::facch` meets its contract. Assumes nothing.
use mathlib.Core.Path.{refl}
use Rattle.receiver.specs.Step.{facch}
use Rattle.yard.proofs.Feeding.{not_taken_as}
use Rattle.yard.proofs.events.facch.Goals as goal

pub returns : goal.returns
returns c = let a = c.args in not_taken_as a.b.now (facch a.time a.octets.now) _ refl c.not_taken.ensures

-- `yard::events::pch` meets its contract. Assumes nothing.
use mathlib.Core.Path.{refl}
use Rattle.receiver.specs.Step.{pch}
use Rattle.yard.proofs.Feeding.{not_taken_as}
use Rattle.yard.proofs.events.pch.Goals as goal

pub returns : goal.returns
returns c = let a = c.args in not_taken_as a.b.now (pch a.time a.numbers.now) _ refl c.not_taken.ensures

-- `csn1::ground` meets its contract. Assumes nothing.
use mathlib.Core.Path.{refl}
use Rattle.csn1.specs.Format.{ground}
use Rattle.csn1.proofs.ground.Goals as goal

pub returns : goal.returns
unfolding ground
returns c = refl

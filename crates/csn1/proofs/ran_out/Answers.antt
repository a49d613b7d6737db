-- `csn1::ran_out` meets its contract. Assumes nothing.
use mathlib.Core.Path.{refl}
use Rattle.csn1.specs.Format.{ran_out}
use Rattle.csn1.proofs.ran_out.Goals as goal

pub returns : goal.returns
unfolding ran_out
returns c = refl

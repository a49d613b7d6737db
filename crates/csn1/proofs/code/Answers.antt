-- `csn1::code` meets its contract. Assumes nothing.
use mathlib.Core.Path.{refl}
use Rattle.csn1.specs.Told.{code_of}
use Rattle.csn1.proofs.code.Goals as goal

pub returns : goal.returns
unfolding code_of
returns c = refl

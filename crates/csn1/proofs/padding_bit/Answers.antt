-- `csn1::padding_bit` meets its contract. Assumes nothing.
use mathlib.Core.Path.{refl}
use Rattle.csn1.specs.Format.{pad_bit}
use Rattle.csn1.proofs.padding_bit.Goals as goal

pub returns : goal.returns
unfolding pad_bit
returns c = refl

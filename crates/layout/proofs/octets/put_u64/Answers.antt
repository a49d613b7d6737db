-- `layout::octets::put_u64` meets its contract. Assumes nothing.
use mathlib.Core.Path.{ap, ◌∙◌}
use Rattle.arrays.specs.Runs.{stored}
use Rattle.arrays.proofs.Running.{more}
use Rattle.layout.proofs.Numbers.{octets8, length-octets}
use Rattle.layout.proofs.octets.put_u64.Goals as goal

pub returns : goal.returns
returns c =
    more 4 _ _ _ _ _ _ c.put_u32.ensures (length-octets 4 _) c.put_u32-2.ensures
    ∙ ap (stored _ _) (octets8 _)

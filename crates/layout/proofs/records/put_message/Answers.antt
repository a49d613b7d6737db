-- `layout::records::put_message` meets its contract. Assumes nothing.
use mathlib.Core.Path.{refl}
use Rattle.arrays.proofs.Running.{more}
use Rattle.layout.proofs.records.put_message.Goals as goal

pub returns : goal.returns
returns c = more 5 _ _ _ _ _ _ c.put_flags.ensures refl c.put_flags-2.ensures

-- `layout::records::put_record` meets its contract. Assumes nothing.
use mathlib.Core.Path.{refl}
use lib.ListN.{length-append}
use Rattle.layout.specs.Layout.{record_octets}
use Rattle.layout.proofs.Numbers.{length-octets, four_runs}
use Rattle.layout.proofs.records.put_record.Goals as goal

pub returns : goal.returns
unfolding record_octets
returns c =
    four_runs _ _ _ _ _ 24 10 _ _ _ (simp (length-append, length-octets)) refl c.put_wide.ensures c.put_entry.ensures c.put_message.ensures
    _ 10 _ refl c.put_small.ensures

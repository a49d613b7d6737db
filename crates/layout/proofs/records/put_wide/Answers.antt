-- `layout::records::put_wide` meets its contract. Assumes nothing.
use Rattle.layout.proofs.Numbers.{length-octets, four_runs}
use Rattle.layout.proofs.records.put_wide.Goals as goal

pub returns : goal.returns
returns c =
    four_runs _ _ _ _ _ 4 4 _ _ _ (length-octets 4 _) (length-octets 4 _) c.put_u32.ensures c.put_u32-2.ensures c.put_u64.ensures _ 8 _
    (length-octets 8 _) c.put_u64-2.ensures

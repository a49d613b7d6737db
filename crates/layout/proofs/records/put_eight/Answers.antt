-- `layout::records::put_eight` meets its contract. Assumes nothing.
use Rattle.layout.proofs.records.put_eight.Goals as goal

pub returns : goal.returns
returns c =
    rw (← c.u64_at.ensures) c.put_u64.ensures

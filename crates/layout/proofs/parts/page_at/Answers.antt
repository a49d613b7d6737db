-- `layout::parts::page_at` meets its contract. Assumes nothing.
use Rattle.layout.specs.Layout.{paged_at}
use Rattle.layout.proofs.parts.page_at.Goals as goal

pub returns : goal.returns
unfolding paged_at
returns c =
    simp (← c.u64_at.ensures, ← c.flag_at.ensures)

-- `layout::records::description_at` meets its contract. Assumes nothing.
use Rattle.layout.specs.Layout.{record_at}
use Rattle.layout.proofs.records.description_at.Goals as goal

pub returns : goal.returns
unfolding record_at
returns c =
    simp (
      ← c.u32_at.ensures,
      ← c.flag_at.ensures,
      ← c.flag_at-2.ensures,
      ← c.u64_at.ensures,
    )

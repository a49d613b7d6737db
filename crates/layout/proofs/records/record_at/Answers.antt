-- `layout::records::record_at` meets its contract. Assumes nothing.
use Rattle.layout.specs.Layout.{record_at}
use Rattle.layout.proofs.records.record_at.Goals as goal

pub returns : goal.returns
unfolding record_at
returns c =
    simp (
      ← c.flag_at.ensures,
      ← c.call_at.ensures,
      ← c.flag_at-2.ensures,
      ← c.flag_at-3.ensures,
      ← c.flag_at-4.ensures,
      ← c.u64_at.ensures,
      ← c.flag_at-5.ensures,
      ← c.common_at.ensures,
    )

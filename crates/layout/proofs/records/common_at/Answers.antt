-- `layout::records::common_at` meets its contract. Assumes nothing.
use Rattle.layout.specs.Layout.{record_at}
use Rattle.layout.proofs.records.common_at.Goals as goal

pub returns : goal.returns
unfolding record_at
returns c =
    simp (
      ← c.flag_at.ensures,
      ← c.flag_at-2.ensures,
      ← c.flag_at-3.ensures,
      ← c.flag_at-4.ensures,
      ← c.flag_at-5.ensures,
      ← c.flag_at-6.ensures,
      ← c.flag_at-7.ensures,
      ← c.flag_at-8.ensures,
      ← c.flag_at-9.ensures,
      ← c.flag_at-10.ensures,
    )

-- `facch_write::checks::release6_in_range` meets its contract. Assumes nothing.
use Rattle.facch_write.specs.Write.{release6_in_range}
use Rattle.facch_write.proofs.checks.release6_in_range.Goals as goal

pub returns : goal.returns
unfolding release6_in_range
returns c =
    rw (
      c.both_hold-3.ensures,
      c.both_hold-2.ensures,
      c.both_hold-numbers.ensures,
      c.both_hold.ensures,
      c.flagged_right-rand.ensures,
      c.bit_right-b22.ensures,
      c.flagged_right-count.ensures,
      c.bit_right-given.ensures,
      c.bit_right-counted.ensures,
    )

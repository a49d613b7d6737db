-- `facch_write::checks::release7_in_range` meets its contract. Assumes nothing.
use Rattle.facch_write.specs.Write.{release7_in_range}
use Rattle.facch_write.proofs.checks.release7_in_range.Goals as goal

pub returns : goal.returns
unfolding release7_in_range
returns c =
    rw (
      c.both_hold-3.ensures,
      c.both_hold-2.ensures,
      c.both_hold.ensures,
      c.bit_right-cause.ensures,
      c.bit_right-caused.ensures,
      c.bit_right-emergency.ensures,
      c.bit_right-uplink.ensures,
    )

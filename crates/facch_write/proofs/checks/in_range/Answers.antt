-- `facch_write::checks::in_range` meets its contract. Assumes nothing.
use Rattle.facch_write.specs.Write.{in_range}
use Rattle.facch_write.proofs.checks.in_range.Goals as goal

pub returns : goal.returns
unfolding in_range
returns c =
    rw (c.both_hold.ensures, c.notified_in_range.ensures, c.both_hold-releases.ensures, c.release7_in_range.ensures, c.release6_in_range.ensures)

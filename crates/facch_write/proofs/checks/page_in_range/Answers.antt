-- `facch_write::checks::page_in_range` meets its contract. Assumes nothing.
use Rattle.facch_write.specs.Write.{page_in_range}
use Rattle.facch_write.proofs.checks.page_in_range.Goals as goal

pub returns : goal.returns
unfolding page_in_range
returns c = rw (c.both_hold-2.ensures, c.both_hold.ensures, c.flagged_right-priority.ensures, c.identity_in_range-identity.ensures)

-- `facch_write::checks::notified_in_range` meets its contract. Assumes nothing.
use Rattle.facch_write.specs.Write.{notified_in_range}
use Rattle.facch_write.proofs.checks.notified_in_range.Goals as goal

pub returns-then-m : goal.returns-then-m
unfolding notified_in_range
returns-then-m c = rw (c.if-m.true, c.both_hold.ensures, c.page_in_range.ensures, c.is_zero.ensures)

pub returns : goal.returns
unfolding notified_in_range
returns c = rw (c.if-m.false, c.both_hold-2.ensures, c.page_is_zero.ensures, c.in_range.ensures)

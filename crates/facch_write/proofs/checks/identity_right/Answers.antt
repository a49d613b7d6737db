-- `facch_write::checks::identity_right` meets its contract. Assumes nothing.
use Rattle.facch_write.specs.Write.{identity_right}
use Rattle.facch_write.proofs.checks.identity_right.Goals as goal

pub returns-then-m : goal.returns-then-m
unfolding identity_right
returns-then-m c = rw c.if-m.true c.both_hold.ensures

pub returns : goal.returns
unfolding identity_right
returns c = rw c.if-m.false

-- `nch_write::checks::random_is_zero` meets its contract. Assumes nothing.
use Rattle.nch_write.proofs.checks.random_is_zero.Goals as goal

pub returns-then-c : goal.returns-then-c
returns-then-c c = rw c.if-c.true

pub returns-then-c-2 : goal.returns-then-c-2
returns-then-c-2 c = rw (c.if-c.false, c.if-c-2.true)

pub returns : goal.returns
returns c = rw (c.if-c.false, c.if-c-2.false)

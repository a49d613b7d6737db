-- `call::writer::hops_right` meets its contract. Assumes nothing.
use borrow.Author.Tests.{not-true, not-false}
use Rattle.call.specs.Write.{call_hops_right}
use Rattle.call.proofs.writer.hops_right.Goals as goal

pub returns-then-not-c : goal.returns-then-not-c
unfolding call_hops_right
returns-then-not-c c = let a = c.args.c in rw (not-true a.hasDescription c.if-not-c.true)

pub returns-then-c : goal.returns-then-c
unfolding call_hops_right
returns-then-c c = let a = c.args.c in rw (not-false a.hasDescription c.if-not-c.false, c.if-c.true)

pub returns : goal.returns
unfolding call_hops_right
returns c = let a = c.args.c in rw (not-false a.hasDescription c.if-not-c.false, c.if-c.false)

-- `call::writer::length_right` meets its contract. Assumes nothing.
use borrow.Author.Tests.{not-true, not-false, le-leb, lt-leb}
use Rattle.call.specs.Write.{call_length_right}
use Rattle.call.proofs.writer.length_right.Goals as goal

pub returns-then-not-c : goal.returns-then-not-c
unfolding call_length_right
returns-then-not-c c = let a = c.args.c in rw (not-true a.hasDescription c.if-not-c.true)

pub returns-then-not-c-2 : goal.returns-then-not-c-2
unfolding call_length_right
returns-then-not-c-2 c = let a = c.args.c in rw (not-false a.hasDescription c.if-not-c.false, not-true a.description.hopping c.if-not-c-2.true)

pub returns-then-c : goal.returns-then-c
unfolding call_length_right
returns-then-c c = let a = c.args.c in rw (not-false a.hasDescription c.if-not-c.false, not-false a.description.hopping c.if-not-c-2.false, c.if-c.true)

pub returns-then-c-lt1 : goal.returns-then-c-lt1
unfolding call_length_right
returns-then-c-lt1 c = let a = c.args.c in rw
    (not-false a.hasDescription c.if-not-c.false, not-false a.description.hopping c.if-not-c-2.false, c.if-c.false, lt-leb 1 a.description.length c.if-c-lt1.true)

pub returns : goal.returns
unfolding call_length_right
returns c = let a = c.args.c in rw (not-false a.hasDescription c.if-not-c.false, not-false a.description.hopping c.if-not-c-2.false, c.if-c.false, le-leb 1 a.description.length c.if-c-lt1.false)

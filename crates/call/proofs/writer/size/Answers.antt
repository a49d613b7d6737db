-- `call::writer::size` meets its contract. Assumes nothing.
use borrow.Author.Tests.{not-true, not-false}
use Rattle.call.proofs.Laws.{call-size}
use Rattle.call.proofs.writer.size.Goals as goal

pub returns-then-not-c : goal.returns-then-not-c
returns-then-not-c c = let a = c.args.c in rw (call-size a, not-true a.hasDescription c.if-not-c.true)

pub returns-then-not-c-2 : goal.returns-then-not-c-2
returns-then-not-c-2 c = let a = c.args.c in rw (call-size a, not-false a.hasDescription c.if-not-c.false, not-true a.description.hopping c.if-not-c-2.true)

pub returns-then-c : goal.returns-then-c
returns-then-c c = let a = c.args.c in rw (call-size a, not-false a.hasDescription c.if-not-c.false, not-false a.description.hopping c.if-not-c-2.false, c.if-c.true)

pub returns : goal.returns
returns c = let a = c.args.c in rw (call-size a, not-false a.hasDescription c.if-not-c.false, not-false a.description.hopping c.if-not-c-2.false, c.if-c.false)

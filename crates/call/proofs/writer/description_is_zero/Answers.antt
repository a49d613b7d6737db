-- `call::writer::description_is_zero` meets its contract. Assumes nothing.
use borrow.Author.Tests.{eq-eqb, ne_eqb}
use Rattle.call.proofs.writer.description_is_zero.Goals as goal

pub returns-then-d-ne0 : goal.returns-then-d-ne0
returns-then-d-ne0 c = let d = c.args.d in rw (ne_eqb d.channel 0 c.if-d-ne0.true)

pub returns-then-d : goal.returns-then-d
returns-then-d c = let d = c.args.d in rw (eq-eqb d.channel 0 c.if-d-ne0.false, c.if-d.true)

pub returns-then-d-2 : goal.returns-then-d-2
returns-then-d-2 c = let d = c.args.d in rw (eq-eqb d.channel 0 c.if-d-ne0.false, c.if-d.false, c.if-d-2.true)

pub returns-then-d-ne0-2 : goal.returns-then-d-ne0-2
returns-then-d-ne0-2 c = let d = c.args.d in rw (eq-eqb d.channel 0 c.if-d-ne0.false, c.if-d.false, c.if-d-2.false, ne_eqb d.length 0 c.if-d-ne0-2.true)

pub returns : goal.returns
returns c = let d = c.args.d in rw (eq-eqb d.channel 0 c.if-d-ne0.false, c.if-d.false, c.if-d-2.false, eq-eqb d.length 0 c.if-d-ne0-2.false)

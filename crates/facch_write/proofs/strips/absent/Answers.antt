-- `facch_write::strips::absent` meets its contract. Assumes nothing.
use borrow.Author.Tests.{eq-eqb, ne_eqb}
use Rattle.facch_write.proofs.strips.absent.Goals as goal

pub returns-then-at-end : goal.returns-then-at-end
returns-then-at-end c = let a = c.args in rw (eq-eqb a.at a.end c.if-at-end.true)

pub returns : goal.returns
returns c = let a = c.args in rw (ne_eqb a.at a.end c.if-at-end.false) c.coded.ensures

-- `gcc::cause::meaning_of` meets its contract. Assumes nothing.
use borrow.Author.Tests.{eq-eqb, ne_eqb}
use Rattle.gcc.proofs.cause.meaning_of.Goals as goal

pub returns-then-count-ne1 : goal.returns-then-count-ne1
returns-then-count-ne1 c = rw (ne_eqb _ _ c.if-count-ne1.true)

pub returns-then-is_listed : goal.returns-then-is_listed
returns-then-is_listed c = rw (eq-eqb _ _ c.if-count-ne1.false, ← c.is_listed.ensures, c.if-is_listed.true)

pub returns : goal.returns
returns c = rw (eq-eqb _ _ c.if-count-ne1.false, ← c.is_listed.ensures, c.if-is_listed.false)

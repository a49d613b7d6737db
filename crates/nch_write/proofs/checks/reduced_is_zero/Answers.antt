-- `nch_write::checks::reduced_is_zero` meets its contract. Assumes nothing.
use borrow.Author.Tests.{eq-eqb, ne_eqb}
use Rattle.nch_write.proofs.checks.reduced_is_zero.Goals as goal

pub returns-then-c-ne0 : goal.returns-then-c-ne0
returns-then-c-ne0 c = rw (ne_eqb c.args.c.reference 0 c.if-c-ne0.true)

pub returns : goal.returns
returns c = rw (eq-eqb c.args.c.reference 0 c.if-c-ne0.false)

-- `csn1::inside` meets its contract. Assumes nothing.
use borrow.Author.Tests.{eq-eqb, ne_eqb}
use Rattle.csn1.specs.Format.{renumbered}
use Rattle.csn1.proofs.inside.Goals as goal

pub returns-then-refusal-eq2 : goal.returns-then-refusal-eq2
unfolding renumbered
returns-then-refusal-eq2 c = rw (eq-eqb c.args.refusal.number 2 c.if-refusal-eq2.true)

pub returns : goal.returns
unfolding renumbered
returns c = rw (ne_eqb c.args.refusal.number 2 c.if-refusal-eq2.false)

-- `yard::events::has_changed` meets its contract. Assumes nothing.
use borrow.Author.Tests.{eq-eqb, ne_eqb}
use Rattle.yard.proofs.events.has_changed.Goals as goal

pub returns-then-before-eq-NO_NLN : goal.returns-then-before-eq-NO_NLN
returns-then-before-eq-NO_NLN c = simp (eq-eqb _ _ c.if-before-eq-NO_NLN.true)

pub returns : goal.returns
returns c = simp (ne_eqb _ _ c.if-before-eq-NO_NLN.false)

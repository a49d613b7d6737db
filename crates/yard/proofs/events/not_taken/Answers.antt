-- `yard::events::not_taken` meets its contract. Assumes nothing.
use borrow.Author.Tests.{eq-eqb, ne_eqb}
use Rattle.yard.proofs.events.not_taken.Goals as goal

pub returns-then-b-ne-LENGTH : goal.returns-then-b-ne-LENGTH
returns-then-b-ne-LENGTH c = simp (ne_eqb _ _ c.if-b-ne-LENGTH.true)

pub returns : goal.returns
returns c = simp (eq-eqb _ _ c.if-b-ne-LENGTH.false)

-- `uplink::asked_for` meets its contract. Assumes nothing.
use borrow.Author.Tests.{eq-eqb, ne_eqb}
use Rattle.uplink.specs.Uplink.{asked_for}
use Rattle.uplink.proofs.asked_for.Goals as goal

pub returns-then-wait-ne0 : goal.returns-then-wait-ne0
unfolding asked_for
returns-then-wait-ne0 c = rw (ne_eqb _ _ c.if-wait-ne0.true)

pub returns-then-free-ne0 : goal.returns-then-free-ne0
unfolding asked_for
returns-then-free-ne0 c = rw (eq-eqb _ _ c.if-wait-ne0.false, ne_eqb _ _ c.if-free-ne0.true)

pub returns : goal.returns
unfolding asked_for
returns c = rw (eq-eqb _ _ c.if-wait-ne0.false, eq-eqb _ _ c.if-free-ne0.false)

-- `uplink::asking` meets its contract. Assumes nothing.
use borrow.Author.Tests.{eq-eqb, ne_eqb}
use Rattle.uplink.specs.Uplink.{asking}
use Rattle.uplink.proofs.asking.Goals as goal

pub returns-then-u-ne0 : goal.returns-then-u-ne0
unfolding asking
returns-then-u-ne0 c = rw (ne_eqb _ _ c.if-u-ne0.true)

pub returns-then-u-ne0-2 : goal.returns-then-u-ne0-2
unfolding asking
returns-then-u-ne0-2 c = rw (eq-eqb _ _ c.if-u-ne0.false, ne_eqb _ _ c.if-u-ne0-2.true)

pub returns : goal.returns
unfolding asking
returns c = rw (eq-eqb _ _ c.if-u-ne0.false, eq-eqb _ _ c.if-u-ne0-2.false)

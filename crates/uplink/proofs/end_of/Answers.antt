-- `uplink::end_of` meets its contract. Assumes nothing.
use borrow.Author.Tests.{eq-eqb, ne_eqb}
use Rattle.uplink.specs.Uplink.{end_of}
use Rattle.uplink.proofs.end_of.Goals as goal

pub returns-then-before-eq0 : goal.returns-then-before-eq0
unfolding end_of
returns-then-before-eq0 c = rw (eq-eqb _ _ c.if-before-eq0.true)

pub returns-then-after-eq0 : goal.returns-then-after-eq0
unfolding end_of
returns-then-after-eq0 c = rw (ne_eqb _ _ c.if-before-eq0.false, eq-eqb _ _ c.if-after-eq0.true)

pub returns-in-Free : goal.returns-in-Free
unfolding end_of
returns-in-Free c = rw (c.in-Free.is, ne_eqb _ _ c.if-before-eq0.false, ne_eqb _ _ c.if-after-eq0.false)

pub returns-in-Busy : goal.returns-in-Busy
unfolding end_of
returns-in-Busy c = rw (c.in-Busy.is, ne_eqb _ _ c.if-before-eq0.false, ne_eqb _ _ c.if-after-eq0.false)

pub returns-in-Request : goal.returns-in-Request
unfolding end_of
returns-in-Request c = rw (c.in-Request.is, ne_eqb _ _ c.if-before-eq0.false, ne_eqb _ _ c.if-after-eq0.false)

pub returns-in-Tick : goal.returns-in-Tick
unfolding end_of
returns-in-Tick c = rw (c.in-Tick.is, ne_eqb _ _ c.if-before-eq0.false, ne_eqb _ _ c.if-after-eq0.false)

-- `gcc::call_reference::without_spare` meets its contract. Assumes nothing.
use borrow.Author.Tests.{eq-eqb, ne_eqb}
use Rattle.gcc.specs.CallReference.{without_spare}
use Rattle.gcc.proofs.call_reference.without_spare.Goals as goal

pub returns-then-n-eq0 : goal.returns-then-n-eq0
unfolding without_spare
returns-then-n-eq0 c = rw (eq-eqb _ _ c.if-n-eq0.true)

pub returns : goal.returns
unfolding without_spare
returns c = rw (ne_eqb _ _ c.if-n-eq0.false)

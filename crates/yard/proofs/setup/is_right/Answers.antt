-- `yard::setup::is_right` meets its contract. Assumes nothing.
use borrow.Author.Tests.{le-leb, lt-leb}
use Rattle.yard.specs.Yard.{yard_right}
use Rattle.yard.proofs.setup.is_right.Goals as goal

pub returns-then-keys-le-CALLS : goal.returns-then-keys-le-CALLS
unfolding yard_right
returns-then-keys-le-CALLS c = simp (le-leb _ _ c.if-keys-le-CALLS.true) c.all_even.ensures

pub returns-else-keys-le-CALLS : goal.returns-else-keys-le-CALLS
unfolding yard_right
returns-else-keys-le-CALLS c = simp (lt-leb _ _ c.if-keys-le-CALLS.false)

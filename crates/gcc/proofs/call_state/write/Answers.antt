-- `gcc::call_state::write` meets its contract. Assumes nothing.
use borrow.Author.Tests.{le-leb, lt-leb}
use Rattle.gcc.specs.CallState.{written_of}
use Rattle.gcc.proofs.call_state.write.Goals as goal

pub returns-then-number-gt11 : goal.returns-then-number-gt11
unfolding written_of
returns-then-number-gt11 c = rw (lt-leb _ _ (rw c.number_of-number.ensures at c.if-number-gt11.true))

pub returns : goal.returns
unfolding written_of
returns c = rw (le-leb _ _ (rw c.number_of-number.ensures at c.if-number-gt11.false), c.number_of-number.ensures)

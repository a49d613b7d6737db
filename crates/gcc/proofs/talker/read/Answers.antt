-- `gcc::talker::read` meets its contract. Assumes nothing.
use borrow.Author.Tests.{le-leb, lt-leb}
use Rattle.gcc.specs.Talker.{read_of}
use Rattle.gcc.proofs.talker.read.Goals as goal

pub returns-then-half-gt15 : goal.returns-then-half-gt15
unfolding read_of
returns-then-half-gt15 c = rw (lt-leb _ _ c.if-half-gt15.true)

pub returns : goal.returns
unfolding read_of
returns c = rw (le-leb _ _ c.if-half-gt15.false, c.priority_of.ensures)

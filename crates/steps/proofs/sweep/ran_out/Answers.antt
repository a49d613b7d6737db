-- `steps::sweep::ran_out` meets its contract. Assumes nothing.
use borrow.Author.Tests.{ne_eqb}
use Rattle.receiver.specs.Model.{ran_out_of}
use Rattle.steps.proofs.sweep.ran_out.Goals as goal

pub returns-then-s-ne0 : goal.returns-then-s-ne0
unfolding ran_out_of
returns-then-s-ne0 c = simp (ne_eqb _ _ c.if-s-ne0.true, c.elapsed.ensures)

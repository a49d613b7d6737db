-- `host::state::asternhaken_read` meets its contract. Assumes nothing.
use borrow.Author.Tests.{eq-eqb, ne_eqb}
use Rattle.layout.specs.Layout.{state_length}
use Rattle.host.proofs.state.asternhaken_read.Goals as goal

pub returns-then-state-ne-LENGTH : goal.returns-then-state-ne-LENGTH
returns-then-state-ne-LENGTH c = (rw (ne_eqb _ state_length c.if-state-ne-LENGTH.true), c.part_of.ensures)

pub returns : goal.returns
returns c = (rw (eq-eqb _ state_length c.if-state-ne-LENGTH.false), c.part_of.ensures)

-- `host_views::state::asternhaken_held_count` meets its contract. Assumes nothing.
use borrow.Author.Tests.{eq-eqb, ne_eqb}
use Rattle.layout.specs.Layout.{state_length}
use Rattle.host_views.proofs.state.asternhaken_held_count.Goals as goal

pub returns-then-state-ne-LENGTH : goal.returns-then-state-ne-LENGTH
returns-then-state-ne-LENGTH c = (rw (ne_eqb _ state_length c.if-state-ne-LENGTH.true), c.count.ensures)

pub returns : goal.returns
returns c = (rw (eq-eqb _ state_length c.if-state-ne-LENGTH.false), c.count.ensures)

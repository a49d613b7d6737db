-- `host_yard::state::asternhaken_yard_count` meets its contract. Assumes nothing.
use borrow.Author.Tests.{eq-eqb, ne_eqb}
use Rattle.yard.specs.Octets.{yard_length}
use Rattle.host_yard.proofs.state.asternhaken_yard_count.Goals as goal

pub returns-then-state-ne-LENGTH : goal.returns-then-state-ne-LENGTH
returns-then-state-ne-LENGTH c = (rw (ne_eqb _ yard_length c.if-state-ne-LENGTH.true), c.count.ensures)

pub returns : goal.returns
returns c = (rw (eq-eqb _ yard_length c.if-state-ne-LENGTH.false), c.count.ensures)

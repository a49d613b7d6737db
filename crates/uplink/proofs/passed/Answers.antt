-- `uplink::passed` meets its contract. Assumes nothing.
use Rattle.uplink.specs.Uplink.{passed}
use Rattle.uplink.proofs.passed.Goals as goal

pub returns : goal.returns
unfolding passed
returns c = simp (c.left.ensures, c.left-2.ensures, c.elapsed-step.ensures)

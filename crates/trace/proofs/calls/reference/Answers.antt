-- `trace::calls::reference` meets its contract. Assumes nothing.
use Rattle.trace.proofs.Rows.{traced_low}
use Rattle.trace.proofs.calls.reference.Goals as goal

pub returns : goal.returns
returns c = traced_low c.row-r.ensures c.low.ensures

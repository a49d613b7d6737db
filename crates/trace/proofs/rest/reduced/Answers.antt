-- `trace::rest::reduced` meets its contract. Assumes nothing.
use Rattle.trace.proofs.Rows.{traced_low}
use Rattle.trace.proofs.rest.reduced.Goals as goal

pub returns : goal.returns
returns c = traced_low c.row-r.ensures c.low.ensures

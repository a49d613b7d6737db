-- `trace::calls::call` meets its contract. Assumes nothing.
use Rattle.trace.proofs.Tracing.{traced_and}
use Rattle.trace.proofs.calls.call.Goals as goal

pub returns : goal.returns
returns c =
    traced_and c.requires c.reference-u.ensures c.described.ensures

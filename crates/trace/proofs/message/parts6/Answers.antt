-- `trace::message::parts6` meets its contract. Assumes nothing.
use Rattle.trace.proofs.Tracing.{traced_and, traced_inside}
use Rattle.trace.proofs.message.parts6.Goals as goal

pub returns : goal.returns
returns c =
    traced_inside (traced_and c.requires c.counts-a.ensures c.flagged.ensures)

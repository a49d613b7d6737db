-- `trace::message::paging` meets its contract. Assumes nothing.
use Rattle.trace.proofs.Tracing.{traced_noted, traced_and}
use Rattle.trace.proofs.message.paging.Goals as goal

pub returns : goal.returns
returns c =
    traced_and c.requires c.identity-a.ensures (traced_and c.identity-a.ensures.step.bound (traced_noted c.note-n.ensures) c.flagged.ensures)

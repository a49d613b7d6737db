-- `trace::message::message` meets its contract. Assumes nothing.
use Rattle.trace.proofs.Tracing.{traced_noted, traced_and}
use Rattle.trace.proofs.message.message.Goals as goal

pub returns : goal.returns
returns c =
    traced_and c.requires (traced_noted c.note-n.ensures)
    (traced_and c.note-n.ensures.step.bound c.call_or_paging-b.ensures
    (traced_and c.call_or_paging-b.ensures.step.bound c.later6-c.ensures c.later7.ensures))

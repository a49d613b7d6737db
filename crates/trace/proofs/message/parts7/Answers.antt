-- `trace::message::parts7` meets its contract. Assumes nothing.
use Rattle.trace.proofs.Tracing.{traced_bit, traced_and, traced_inside}
use Rattle.trace.proofs.message.parts7.Goals as goal

pub returns : goal.returns
returns c =
    traced_inside (traced_and c.requires (traced_bit c.note-a.ensures) (traced_and c.note-a.ensures.step.bound (traced_bit c.note-b.ensures) c.flagged.ensures))

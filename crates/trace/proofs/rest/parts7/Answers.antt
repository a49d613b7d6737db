-- `trace::rest::parts7` meets its contract. Assumes nothing.
use Rattle.trace.proofs.Tracing.{traced_and, traced_inside}
use Rattle.trace.proofs.rest.parts7.Goals as goal

pub returns : goal.returns
returns c =
    traced_inside
    (traced_and c.requires c.marks-a.ensures
    (traced_and c.marks-a.ensures.step.bound c.flagged-b.ensures
    (traced_and c.flagged-b.ensures.step.bound c.amr-c.ensures c.sms.ensures)))

-- `trace::rest::rest` meets its contract. Assumes nothing.
use Rattle.trace.proofs.Tracing.{traced_and}
use Rattle.trace.proofs.rest.rest.Goals as goal

pub returns : goal.returns
returns c =
    traced_and c.requires c.flagged-a.ensures
    (traced_and c.flagged-a.ensures.step.bound c.calls-b.ensures
    (traced_and c.calls-b.ensures.step.bound c.later6-c.ensures c.later7.ensures))

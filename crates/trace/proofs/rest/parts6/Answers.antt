-- `trace::rest::parts6` meets its contract. Assumes nothing.
use Rattle.trace.proofs.Tracing.{traced_and, traced_inside}
use Rattle.trace.proofs.rest.parts6.Goals as goal

pub returns : goal.returns
returns c =
    traced_inside (traced_and c.requires c.flagged-a.ensures (traced_and c.flagged-a.ensures.step.bound c.reduceds-b.ensures c.randoms.ensures))

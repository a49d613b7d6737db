-- `trace::rest::amr` meets its contract. Assumes nothing.
use Rattle.trace.proofs.Tracing.{traced_and, traced_flag-none, traced_flag-some}
use Rattle.trace.proofs.rest.amr.Goals as goal

pub returns-then-f-eq0 : goal.returns-then-f-eq0
returns-then-f-eq0 c =
    traced_flag-none c.requires c.note-f.ensures c.if-f-eq0.true

pub returns : goal.returns
returns c =
    traced_flag-some c.requires c.note-f.ensures c.if-f-eq0.false (traced_and c.note-f.ensures.step.bound c.flagged-a.ensures c.flagged.ensures)

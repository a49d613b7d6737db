-- `trace::calls::frequencies` meets its contract. Assumes nothing.
use Rattle.trace.proofs.Tracing.{traced_noted, traced_left, traced_right}
use Rattle.trace.proofs.calls.frequencies.Goals as goal

pub returns-then-b-eq0 : goal.returns-then-b-eq0
returns-then-b-eq0 c =
    traced_left c.requires c.note-b.ensures c.if-b-eq0.true c.allocation.ensures

pub returns : goal.returns
returns c =
    traced_right c.requires c.note-b.ensures c.if-b-eq0.false (traced_noted c.note-l.ensures)

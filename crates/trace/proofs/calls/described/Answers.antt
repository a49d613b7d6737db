-- `trace::calls::described` meets its contract. Assumes nothing.
use Rattle.trace.proofs.Tracing.{traced_flag-none, traced_flag-some}
use Rattle.trace.proofs.calls.described.Goals as goal

pub returns-then-f-eq0 : goal.returns-then-f-eq0
returns-then-f-eq0 c =
    traced_flag-none c.requires c.note-f.ensures c.if-f-eq0.true

pub returns : goal.returns
returns c =
    traced_flag-some c.requires c.note-f.ensures c.if-f-eq0.false c.description.ensures

-- `trace::fields::flagged` meets its contract. Assumes nothing.
use Rattle.trace.proofs.Tracing.{traced_noted, traced_flag-none, traced_flag-some}
use Rattle.trace.proofs.fields.flagged.Goals as goal

pub returns-then-f-eq0 : goal.returns-then-f-eq0
returns-then-f-eq0 c =
    traced_flag-none c.requires.0 c.note-f.ensures c.if-f-eq0.true

pub returns : goal.returns
returns c =
    traced_flag-some c.requires.0 c.note-f.ensures c.if-f-eq0.false (traced_noted c.note-n.ensures)

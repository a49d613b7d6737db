-- `trace::fields::note` meets its contract. Assumes nothing.
use borrow.Author.Tests.{not-true, not-false}
use Rattle.trace.proofs.Tracing.{noted_idle, noted_short, noted_here}
use Rattle.trace.proofs.fields.note.Goals as goal

pub returns-then-not-t : goal.returns-then-not-t
returns-then-not-t c =
    noted_idle c.requires.0 (not-true _ c.if-not-t.true)

pub returns-then-s-at : goal.returns-then-s-at
returns-then-s-at c =
    noted_short c.requires.0 c.if-s-at.true c.stop-end.ensures

pub returns : goal.returns
returns c =
    noted_here c.requires.0 (not-false _ c.if-not-t.false) c.if-s-at.false c.requires.1 c.put-value.ensures.0 c.put-value.ensures.1

-- `trace::fields::row` meets its contract. Assumes nothing.
use borrow.Author.Tests.{not-true, not-false}
use Rattle.trace.proofs.Rows.{row-idle, row-short, row_here}
use Rattle.trace.proofs.fields.row.Goals as goal

pub returns-then-not-t : goal.returns-then-not-t
returns-then-not-t c =
    row-idle c.requires.0 c.requires.1 (not-true _ c.if-not-t.true)

pub returns-then-s-at : goal.returns-then-s-at
returns-then-s-at c =
    row-short c.requires.0 c.requires.1 c.if-s-at.true c.stop.ensures

pub returns : goal.returns
returns c =
    row_here c.requires.0 c.requires.1 (not-false _ c.if-not-t.false) c.if-s-at.false c.side_by_side.ensures

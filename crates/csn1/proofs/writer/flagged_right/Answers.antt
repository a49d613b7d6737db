-- `csn1::writer::flagged_right` meets its contract. Assumes nothing.
use Rattle.csn1.proofs.writer.flagged_right.Goals as goal

pub returns-then-there : goal.returns-then-there
returns-then-there c = rw c.if-there.true

pub returns : goal.returns
returns c = rw c.if-there.false

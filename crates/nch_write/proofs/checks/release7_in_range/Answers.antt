-- `nch_write::checks::release7_in_range` meets its contract. Assumes nothing.
use borrow.Author.Tests.{not-true, not-false, le-leb, lt-leb, eq-eqb, ne_eqb}
use mathlib.Core.Path.{◌≡◌}
use mathlib.Core.Bool.{true, not}
use lib.Dec.{eqb}
use Rattle.bits.specs.Field.{both, pick}
use Rattle.csn1.proofs.Telling.{fails, passes}
use Rattle.nch.specs.declared.Release7.{Release7}
use Rattle.nch.specs.Write.{release7_in_range}
use Rattle.nch_write.proofs.checks.release7_in_range.Goals as goal
use Rattle.nch_write.proofs.checks.release7_in_range.Goals.{then-not-r+else-r-ne0+else-r+else-r-2+else-r-3, else-not-r}

pub returns-then-r-gt-MOST_MARKS : goal.returns-then-r-gt-MOST_MARKS
unfolding release7_in_range
returns-then-r-gt-MOST_MARKS c = rw (lt-leb c.args.r.markcount 4 c.if-r-gt-MOST_MARKS.true)

pub returns-then-r-ne0 : goal.returns-then-r-ne0
unfolding release7_in_range
returns-then-r-ne0 c = rw (le-leb c.args.r.markcount 4 c.if-r-gt-MOST_MARKS.false, not-true c.args.r.hasRelease c.if-not-r.true, ne_eqb c.args.r.markcount 0 c.if-r-ne0.true)

pub returns-then-r : goal.returns-then-r
unfolding release7_in_range
returns-then-r c = rw (le-leb c.args.r.markcount 4 c.if-r-gt-MOST_MARKS.false, not-true c.args.r.hasRelease c.if-not-r.true, eq-eqb c.args.r.markcount 0 c.if-r-ne0.false, c.if-r.true)

pub returns-then-r-2 : goal.returns-then-r-2
unfolding release7_in_range
returns-then-r-2 c =
    rw (le-leb c.args.r.markcount 4 c.if-r-gt-MOST_MARKS.false, not-true c.args.r.hasRelease c.if-not-r.true, eq-eqb c.args.r.markcount 0 c.if-r-ne0.false, c.if-r.false, c.if-r-2.true)

pub returns-then-r-3 : goal.returns-then-r-3
unfolding release7_in_range
returns-then-r-3 c =
    let r = c.args.r in
    rw (le-leb r.markcount 4 c.if-r-gt-MOST_MARKS.false, not-true r.hasRelease c.if-not-r.true, eq-eqb r.markcount 0 c.if-r-ne0.false, c.if-r.false, c.if-r-2.false, c.if-r-3.true)

pub returns-then-not-marks_in_range : goal.returns-then-not-marks_in_range
unfolding release7_in_range
returns-then-not-marks_in_range c =
    let empty' : let r : Release7 = c.args.r in pick r.hasRelease true (both (eqb r.markcount 0) (both (not r.hasUplink) (both (not r.hasAmr) (not r.hasSms)))) ≡ true = let r : Release7 = c.args.r in
    elim c.if-not-r.branch [
      | then-not-r+else-r-ne0+else-r+else-r-2+else-r-3 w ↦ rw (not-true r.hasRelease w.if-not-r.true, eq-eqb r.markcount 0 w.if-r-ne0.false, w.if-r.false, w.if-r-2.false, w.if-r-3.false)
      | else-not-r w ↦ rw (not-false r.hasRelease w.if-not-r.false)
    ] in
    rw (le-leb c.args.r.markcount 4 c.if-r-gt-MOST_MARKS.false, empty', fails c.if-not-marks_in_range.true-raw c.marks_in_range.ensures)

pub returns : goal.returns
unfolding release7_in_range
returns c =
    let empty' : let r : Release7 = c.args.r in pick r.hasRelease true (both (eqb r.markcount 0) (both (not r.hasUplink) (both (not r.hasAmr) (not r.hasSms)))) ≡ true = let r : Release7 = c.args.r in
    elim c.if-not-r.branch [
      | then-not-r+else-r-ne0+else-r+else-r-2+else-r-3 w ↦ rw (not-true r.hasRelease w.if-not-r.true, eq-eqb r.markcount 0 w.if-r-ne0.false, w.if-r.false, w.if-r-2.false, w.if-r-3.false)
      | else-not-r w ↦ rw (not-false r.hasRelease w.if-not-r.false)
    ] in
    rw (le-leb c.args.r.markcount 4 c.if-r-gt-MOST_MARKS.false, empty', passes c.if-not-marks_in_range.false-raw c.marks_in_range.ensures) c.flags_in_range.ensures

-- `nch_write::checks::release6_in_range` meets its contract. Assumes nothing.
use borrow.Author.Tests.{not-true, not-false, le-leb, lt-leb, eq-eqb, ne_eqb}
use mathlib.Core.Path.{◌≡◌}
use mathlib.Core.Bool.{true, false, not}
use lib.Dec.{leb, eqb}
use Rattle.bits.specs.Field.{both, pick}
use Rattle.csn1.proofs.Telling.{fails, passes}
use Rattle.nch.specs.declared.Release6.{Release6}
use Rattle.nch.specs.Write.{release6_in_range}
use Rattle.nch_write.proofs.checks.release6_in_range.Goals as goal
use Rattle.nch_write.proofs.checks.release6_in_range.Goals.{then-not-r+else-r+else-r-ne0+else-r-ne0-2, else-not-r}

pub returns-then-r-gt-MOST_REDUCEDS : goal.returns-then-r-gt-MOST_REDUCEDS
unfolding release6_in_range
returns-then-r-gt-MOST_REDUCEDS c = rw (lt-leb c.args.r.reducedcount 5 c.if-r-gt-MOST_REDUCEDS.true)

pub returns-then-r-gt-MOST_RANDOMS : goal.returns-then-r-gt-MOST_RANDOMS
unfolding release6_in_range
returns-then-r-gt-MOST_RANDOMS c =
    let r = c.args.r in
    rw (le-leb r.reducedcount 5 c.if-r-gt-MOST_REDUCEDS.false, lt-leb r.randomcount 9 c.if-r-gt-MOST_RANDOMS.true)

pub returns-then-r : goal.returns-then-r
unfolding release6_in_range
returns-then-r c =
    let few_reduceds' : leb c.args.r.reducedcount 5 ≡ true = le-leb c.args.r.reducedcount 5 c.if-r-gt-MOST_REDUCEDS.false in
    let few-randoms' : leb c.args.r.randomcount 9 ≡ true = le-leb c.args.r.randomcount 9 c.if-r-gt-MOST_RANDOMS.false in
    let absent' : c.args.r.hasRelease ≡ false = not-true c.args.r.hasRelease c.if-not-r.true in
    rw (few_reduceds', few-randoms', absent', c.if-r.true)

pub returns-then-r-ne0 : goal.returns-then-r-ne0
unfolding release6_in_range
returns-then-r-ne0 c =
    let few_reduceds' : leb c.args.r.reducedcount 5 ≡ true = le-leb c.args.r.reducedcount 5 c.if-r-gt-MOST_REDUCEDS.false in
    let few-randoms' : leb c.args.r.randomcount 9 ≡ true = le-leb c.args.r.randomcount 9 c.if-r-gt-MOST_RANDOMS.false in
    let absent' : c.args.r.hasRelease ≡ false = not-true c.args.r.hasRelease c.if-not-r.true in
    rw (few_reduceds', few-randoms', absent', c.if-r.false, ne_eqb c.args.r.reducedcount 0 c.if-r-ne0.true)

pub returns-then-r-ne0-2 : goal.returns-then-r-ne0-2
unfolding release6_in_range
returns-then-r-ne0-2 c =
    let few_reduceds' : leb c.args.r.reducedcount 5 ≡ true = le-leb c.args.r.reducedcount 5 c.if-r-gt-MOST_REDUCEDS.false in
    let few-randoms' : leb c.args.r.randomcount 9 ≡ true = le-leb c.args.r.randomcount 9 c.if-r-gt-MOST_RANDOMS.false in
    let absent' : c.args.r.hasRelease ≡ false = not-true c.args.r.hasRelease c.if-not-r.true in
    rw (few_reduceds', few-randoms', absent', c.if-r.false, eq-eqb c.args.r.reducedcount 0 c.if-r-ne0.false, ne_eqb c.args.r.randomcount 0 c.if-r-ne0-2.true)

pub returns-then-not-flagged_right : goal.returns-then-not-flagged_right
unfolding release6_in_range
returns-then-not-flagged_right c =
    let few_reduceds' : leb c.args.r.reducedcount 5 ≡ true = le-leb c.args.r.reducedcount 5 c.if-r-gt-MOST_REDUCEDS.false in
    let few-randoms' : leb c.args.r.randomcount 9 ≡ true = le-leb c.args.r.randomcount 9 c.if-r-gt-MOST_RANDOMS.false in
    let empty' : let r : Release6 = c.args.r in pick r.hasRelease true (both (not r.hasCount) (both (eqb r.reducedcount 0) (eqb r.randomcount 0))) ≡ true = let r : Release6 = c.args.r in
    elim c.if-not-r.branch [
      | then-not-r+else-r+else-r-ne0+else-r-ne0-2 w ↦ rw (not-true r.hasRelease w.if-not-r.true, w.if-r.false, eq-eqb r.reducedcount 0 w.if-r-ne0.false, eq-eqb r.randomcount 0 w.if-r-ne0-2.false)
      | else-not-r w ↦ rw (not-false r.hasRelease w.if-not-r.false)
    ] in
    rw (few_reduceds', few-randoms', empty', fails c.if-not-flagged_right.true-raw c.flagged_right.ensures)

pub returns-then-not-reduceds_in_range : goal.returns-then-not-reduceds_in_range
unfolding release6_in_range
returns-then-not-reduceds_in_range c =
    let few_reduceds' : leb c.args.r.reducedcount 5 ≡ true = le-leb c.args.r.reducedcount 5 c.if-r-gt-MOST_REDUCEDS.false in
    let few-randoms' : leb c.args.r.randomcount 9 ≡ true = le-leb c.args.r.randomcount 9 c.if-r-gt-MOST_RANDOMS.false in
    let empty' : let r : Release6 = c.args.r in pick r.hasRelease true (both (not r.hasCount) (both (eqb r.reducedcount 0) (eqb r.randomcount 0))) ≡ true = let r : Release6 = c.args.r in
    elim c.if-not-r.branch [
      | then-not-r+else-r+else-r-ne0+else-r-ne0-2 w ↦ rw (not-true r.hasRelease w.if-not-r.true, w.if-r.false, eq-eqb r.reducedcount 0 w.if-r-ne0.false, eq-eqb r.randomcount 0 w.if-r-ne0-2.false)
      | else-not-r w ↦ rw (not-false r.hasRelease w.if-not-r.false)
    ] in
    rw (few_reduceds', few-randoms', empty', passes c.if-not-flagged_right.false-raw c.flagged_right.ensures, fails c.if-not-reduceds_in_range.true-raw c.reduceds_in_range.ensures)

pub returns : goal.returns
unfolding release6_in_range
returns c =
    let few_reduceds' : leb c.args.r.reducedcount 5 ≡ true = le-leb c.args.r.reducedcount 5 c.if-r-gt-MOST_REDUCEDS.false in
    let few-randoms' : leb c.args.r.randomcount 9 ≡ true = le-leb c.args.r.randomcount 9 c.if-r-gt-MOST_RANDOMS.false in
    let empty' : let r : Release6 = c.args.r in pick r.hasRelease true (both (not r.hasCount) (both (eqb r.reducedcount 0) (eqb r.randomcount 0))) ≡ true = let r : Release6 = c.args.r in
    elim c.if-not-r.branch [
      | then-not-r+else-r+else-r-ne0+else-r-ne0-2 w ↦ rw (not-true r.hasRelease w.if-not-r.true, w.if-r.false, eq-eqb r.reducedcount 0 w.if-r-ne0.false, eq-eqb r.randomcount 0 w.if-r-ne0-2.false)
      | else-not-r w ↦ rw (not-false r.hasRelease w.if-not-r.false)
    ] in
    rw (few_reduceds', few-randoms', empty', passes c.if-not-flagged_right.false-raw c.flagged_right.ensures, passes c.if-not-reduceds_in_range.false-raw c.reduceds_in_range.ensures)
    c.randoms_in_range.ensures

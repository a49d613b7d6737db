-- `nch_write::checks::in_range` meets its contract. Assumes nothing.
use mathlib.Core.Path.{◌≡◌}
use mathlib.Core.Bool.{true}
use lib.Dec.{leb}
use borrow.Author.Tests.{le-leb, lt-leb}
use Rattle.csn1.proofs.Telling.{fails, passes}
use Rattle.csn1.specs.Write.{flagged_right}
use Rattle.call.specs.Write.{call_in_range, call_is_zero}
use Rattle.nch.specs.Write.{places_right, release6_in_range, in_range}
use Rattle.nch_write.proofs.checks.in_range.Goals as goal

pub returns-then-m-gt-MOST_CALLS : goal.returns-then-m-gt-MOST_CALLS
unfolding in_range
returns-then-m-gt-MOST_CALLS c = rw (lt-leb c.args.m.callcount 4 c.if-m-gt-MOST_CALLS.true)

pub returns-then-not-flagged_right : goal.returns-then-not-flagged_right
unfolding in_range
returns-then-not-flagged_right c =
    let few' : leb c.args.m.callcount 4 ≡ true = le-leb c.args.m.callcount 4 c.if-m-gt-MOST_CALLS.false in
    rw (few', fails c.if-not-flagged_right.true-raw c.flagged_right.ensures)

pub returns-then-not-calls_in_range : goal.returns-then-not-calls_in_range
unfolding in_range
returns-then-not-calls_in_range c =
    let few' : leb c.args.m.callcount 4 ≡ true = le-leb c.args.m.callcount 4 c.if-m-gt-MOST_CALLS.false in
    let nln-right' : let m = c.args.m in flagged_right m.hasNln m.nln 4 ≡ true = passes c.if-not-flagged_right.false-raw c.flagged_right.ensures in
    rw (few', nln-right', fails c.if-not-calls_in_range.true-raw c.calls_in_range.ensures)

pub returns-then-not-release6_in_range : goal.returns-then-not-release6_in_range
unfolding in_range
returns-then-not-release6_in_range c =
    let few' : leb c.args.m.callcount 4 ≡ true = le-leb c.args.m.callcount 4 c.if-m-gt-MOST_CALLS.false in
    let nln-right' : let m = c.args.m in flagged_right m.hasNln m.nln 4 ≡ true = passes c.if-not-flagged_right.false-raw c.flagged_right.ensures in
    let calls-right' : let m = c.args.m in places_right call_in_range call_is_zero m.callcount m.calls ≡ true = passes c.if-not-calls_in_range.false-raw c.calls_in_range.ensures in
    rw (few', nln-right', calls-right', fails c.if-not-release6_in_range.true-raw c.release6_in_range.ensures)

pub returns : goal.returns
unfolding in_range
returns c =
    let few' : leb c.args.m.callcount 4 ≡ true = le-leb c.args.m.callcount 4 c.if-m-gt-MOST_CALLS.false in
    let nln-right' : let m = c.args.m in flagged_right m.hasNln m.nln 4 ≡ true = passes c.if-not-flagged_right.false-raw c.flagged_right.ensures in
    let calls-right' : let m = c.args.m in places_right call_in_range call_is_zero m.callcount m.calls ≡ true = passes c.if-not-calls_in_range.false-raw c.calls_in_range.ensures in
    let six-right' : release6_in_range c.args.m.release6 ≡ true = passes c.if-not-release6_in_range.false-raw c.release6_in_range.ensures in
    rw (few', nln-right', calls-right', six-right') c.release7_in_range.ensures

-- `nch_write::checks::refusal` meets its contract. Assumes nothing.
use native.Mathlib.Omega.{arith}
use borrow.Author.Tests.{le-leb, lt-leb}
use Rattle.csn1.proofs.Telling.{fails, passes}
use Rattle.call.specs.Call.{ciphered}
use Rattle.nch.specs.declared.Notification.{Notification}
use Rattle.nch.specs.Write.{record_refusal, references_low, lengths_right, hops_right, randoms_owned, marks_owned}
use Rattle.nch_write.proofs.InRange.{count-few, in_range-few}
use Rattle.nch_write.proofs.checks.refusal.Goals as goal

pub returns-then-not-in_range : goal.returns-then-not-in_range
unfolding record_refusal references_low lengths_right hops_right randoms_owned marks_owned
returns-then-not-in_range c = rw (fails c.if-not-in_range.true-raw c.in_range.ensures)

pub returns-then-not-t : goal.returns-then-not-t
unfolding record_refusal references_low lengths_right hops_right randoms_owned marks_owned
returns-then-not-t c =
    let a = passes c.if-not-in_range.false-raw c.in_range.ensures in
    let t = c.calls_tested-t.ensures in
    rw (a, fails c.if-not-t.true t.0)

pub returns-then-not-reduceds_low : goal.returns-then-not-reduceds_low
unfolding record_refusal references_low lengths_right hops_right randoms_owned marks_owned
returns-then-not-reduceds_low c =
    let a = passes c.if-not-in_range.false-raw c.in_range.ensures in
    let t = c.calls_tested-t.ensures in
    let low = passes c.if-not-t.false t.0 in
    rw (a, low, fails c.if-not-reduceds_low.true-raw c.reduceds_low.ensures)

pub returns-then-not-t-2 : goal.returns-then-not-t-2
unfolding record_refusal references_low lengths_right hops_right randoms_owned marks_owned
returns-then-not-t-2 c =
    let a = passes c.if-not-in_range.false-raw c.in_range.ensures in
    let t = c.calls_tested-t.ensures in
    let low = passes c.if-not-t.false t.0 in
    let reduced = passes c.if-not-reduceds_low.false-raw c.reduceds_low.ensures in
    rw (a, low, reduced, fails c.if-not-t-2.true t.1.0)

pub returns-then-not-t-3 : goal.returns-then-not-t-3
unfolding record_refusal references_low lengths_right hops_right randoms_owned marks_owned
returns-then-not-t-3 c =
    let a = passes c.if-not-in_range.false-raw c.in_range.ensures in
    let t = c.calls_tested-t.ensures in
    let low = passes c.if-not-t.false t.0 in
    let reduced = passes c.if-not-reduceds_low.false-raw c.reduceds_low.ensures in
    let lengths = passes c.if-not-t-2.false t.1.0 in
    rw (a, low, reduced, lengths, fails c.if-not-t-3.true t.1.1)

pub overflow_add-k : goal.overflow_add-k
overflow_add-k c =
    let m : Notification = c.args.m in
    let few = in_range-few m (passes c.if-not-in_range.false-raw c.in_range.ensures) in
    omega (arith, c.counted-k.ensures.0, count-few ciphered m.callcount m.calls, few.0, few.1)

pub returns-then-k-six : goal.returns-then-k-six
unfolding record_refusal references_low lengths_right hops_right randoms_owned marks_owned
returns-then-k-six c =
    let a = passes c.if-not-in_range.false-raw c.in_range.ensures in
    let t = c.calls_tested-t.ensures in
    let low = passes c.if-not-t.false t.0 in
    let reduced = passes c.if-not-reduceds_low.false-raw c.reduceds_low.ensures in
    let lengths = passes c.if-not-t-2.false t.1.0 in
    let hops = passes c.if-not-t-3.false t.1.1 in
    let m = c.args.m in
    let k = c.counted-k.ensures in
    rw (a, low, reduced, lengths, hops, ← k.0, lt-leb m.release6.randomcount _ c.if-k-six.true)

pub returns-then-k-m : goal.returns-then-k-m
unfolding record_refusal references_low lengths_right hops_right randoms_owned marks_owned
returns-then-k-m c =
    let a = passes c.if-not-in_range.false-raw c.in_range.ensures in
    let t = c.calls_tested-t.ensures in
    let low = passes c.if-not-t.false t.0 in
    let reduced = passes c.if-not-reduceds_low.false-raw c.reduceds_low.ensures in
    let lengths = passes c.if-not-t-2.false t.1.0 in
    let hops = passes c.if-not-t-3.false t.1.1 in
    let m = c.args.m in
    let k = c.counted-k.ensures in
    rw (a, low, reduced, lengths, hops, ← k.0, le-leb m.release6.randomcount _ c.if-k-six.false, ← k.1, lt-leb m.release7.markcount _ c.if-k-m.true)

pub returns : goal.returns
unfolding record_refusal references_low lengths_right hops_right randoms_owned marks_owned
returns c =
    let a = passes c.if-not-in_range.false-raw c.in_range.ensures in
    let t = c.calls_tested-t.ensures in
    let low = passes c.if-not-t.false t.0 in
    let reduced = passes c.if-not-reduceds_low.false-raw c.reduceds_low.ensures in
    let lengths = passes c.if-not-t-2.false t.1.0 in
    let hops = passes c.if-not-t-3.false t.1.1 in
    let m = c.args.m in
    let k = c.counted-k.ensures in
    rw (a, low, reduced, lengths, hops, ← k.0, le-leb m.release6.randomcount _ c.if-k-six.false, ← k.1, le-leb m.release7.markcount _ c.if-k-m.false)

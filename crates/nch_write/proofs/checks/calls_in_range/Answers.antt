-- `nch_write::checks::calls_in_range` meets its contract. Assumes nothing.
use Rattle.csn1.proofs.Telling.{fails, passes}
use Rattle.nch_write.proofs.Testing.{places_begin, places-used, places-unused, places-end, places_failed}
use native.Mathlib.Omega.{arith}
use Rattle.nch_write.proofs.checks.calls_in_range.Goals as goal
use Rattle.nch_write.proofs.checks.calls_in_range.Goals.{then-i-n+else-not-in_range, else-i-n+else-not-is_zero}

pub loop-i-init : goal.loop-i-init
loop-i-init c = places_begin _ _ _ _ _ (omega arith)

pub returns-then-not-in_range : goal.returns-then-not-in_range
returns-then-not-in_range c = places_failed (places-used c.loop-i.invariant _ c.loop-i-test.true c.if-i-n.true (fails c.if-not-in_range.true-raw c.in_range.ensures))

pub returns-then-not-is_zero : goal.returns-then-not-is_zero
returns-then-not-is_zero c = places_failed (places-unused c.loop-i.invariant _ c.loop-i-test.true c.if-i-n.false (fails c.if-not-is_zero.true-raw c.is_zero.ensures))

pub loop-i-preserved : goal.loop-i-preserved
loop-i-preserved c =
    elim c.if-i-n.branch [
      | then-i-n+else-not-in_range w ↦ places-used c.loop-i.invariant _ c.loop-i-test.true w.if-i-n.true (passes w.if-not-in_range.false-raw w.in_range.ensures)
      | else-i-n+else-not-is_zero w ↦ places-unused c.loop-i.invariant _ c.loop-i-test.true w.if-i-n.false (passes w.if-not-is_zero.false-raw w.is_zero.ensures)
    ]

pub returns : goal.returns
returns c = places-end c.loop-i.invariant c.loop-i-test.false

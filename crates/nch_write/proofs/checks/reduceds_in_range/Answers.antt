-- `nch_write::checks::reduceds_in_range` meets its contract. Assumes nothing.
use Prim.Native.Nat.{ℕ, ◌≤◌, ◌<◌}
use borrow.Author.Tests.{lt-ltb, le-ltb}
use Rattle.csn1.proofs.Telling.{fails, passes}
use Rattle.nch_write.proofs.Testing.{places_begin, places-used, places-unused, places-end, places_failed}
use native.Mathlib.Omega.{arith}
use Rattle.nch_write.proofs.checks.reduceds_in_range.Goals as goal
use Rattle.nch_write.proofs.checks.reduceds_in_range.Goals.{then-i-n+else-c-gt134217727, else-i-n+else-not-reduced_is_zero}

-- the largest reference of 27 bits
below : {r : ℕ} → r ≤ 134217727 → r < 134217728
below h = omega arith

pub loop-i-init : goal.loop-i-init
loop-i-init c = places_begin _ _ _ _ _ (omega arith)

pub returns-then-c-gt134217727 : goal.returns-then-c-gt134217727
returns-then-c-gt134217727 c = places_failed (places-used c.loop-i.invariant _ c.loop-i-test.true c.if-i-n.true (le-ltb _ 134217728 c.if-c-gt134217727.true))

pub returns-then-not-reduced_is_zero : goal.returns-then-not-reduced_is_zero
returns-then-not-reduced_is_zero c = places_failed (places-unused c.loop-i.invariant _ c.loop-i-test.true c.if-i-n.false (fails c.if-not-reduced_is_zero.true-raw c.reduced_is_zero.ensures))

pub loop-i-preserved : goal.loop-i-preserved
loop-i-preserved c =
    elim c.if-i-n.branch [
      | then-i-n+else-c-gt134217727 w ↦ places-used c.loop-i.invariant _ c.loop-i-test.true w.if-i-n.true (lt-ltb _ 134217728 (below w.if-c-gt134217727.false))
      | else-i-n+else-not-reduced_is_zero w ↦ places-unused c.loop-i.invariant _ c.loop-i-test.true w.if-i-n.false (passes w.if-not-reduced_is_zero.false-raw w.reduced_is_zero.ensures)
    ]

pub returns : goal.returns
returns c = places-end c.loop-i.invariant c.loop-i-test.false

-- `nch_write::checks::marks_in_range` meets its contract. Assumes nothing.
use mathlib.Core.Path.{refl, ap}
use mathlib.Core.Bool.{true, not}
use Rattle.nch_write.proofs.Testing.{places_begin, places-used, places-unused, places-end, places_failed}
use native.Mathlib.Omega.{arith}
use Rattle.nch_write.proofs.checks.marks_in_range.Goals as goal
use Rattle.nch_write.proofs.checks.marks_in_range.Goals.{then-n-i+else-m, else-n-i}

pub loop-i-init : goal.loop-i-init
loop-i-init c = places_begin _ _ _ _ _ (omega arith)

pub returns-then-m : goal.returns-then-m
returns-then-m c = places_failed (places-unused c.loop-i.invariant _ c.loop-i-test.true c.if-n-i.true (ap not c.if-m.true))

pub loop-i-preserved : goal.loop-i-preserved
loop-i-preserved c =
    elim c.if-n-i.branch [
      | then-n-i+else-m w ↦ places-unused c.loop-i.invariant _ c.loop-i-test.true w.if-n-i.true (ap not w.if-m.false)
      | else-n-i w ↦ places-used c.loop-i.invariant true c.loop-i-test.true w.if-n-i.false refl
    ]

pub returns : goal.returns
returns c = places-end c.loop-i.invariant c.loop-i-test.false

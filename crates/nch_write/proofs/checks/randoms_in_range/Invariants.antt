-- What the loops of `nch_write::checks::randoms_in_range` keep, and why they end.
use mathlib.Core.Bool.{true}
use Prim.Native.Nat.{◌-◌}
use Rattle.nch.specs.Write.{random_in_range, random_is_zero}
use Rattle.nch_write.proofs.Testing.{Places}
use Rattle.nch_write.proofs.checks.randoms_in_range.Given as goal

abbrev pub invariant-loop-i : goal.invariant-loop-i
invariant-loop-i l = Places random_in_range random_is_zero l.n l.items 9 true l.i

abbrev pub decreases-loop-i : goal.decreases-loop-i
decreases-loop-i l = 9 - l.i

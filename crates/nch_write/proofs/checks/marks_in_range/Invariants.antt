-- What the loops of `nch_write::checks::marks_in_range` keep, and why they end.
use mathlib.Core.Bool.{true, not}
use Prim.Native.Nat.{◌-◌}
use Rattle.nch.specs.Write.{any_mark}
use Rattle.nch_write.proofs.Testing.{Places}
use Rattle.nch_write.proofs.checks.marks_in_range.Given as goal

abbrev pub invariant-loop-i : goal.invariant-loop-i
invariant-loop-i l = Places any_mark not l.n l.marks 4 true l.i

abbrev pub decreases-loop-i : goal.decreases-loop-i
decreases-loop-i l = 4 - l.i

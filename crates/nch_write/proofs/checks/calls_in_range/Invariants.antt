-- What the loops of `nch_write::checks::calls_in_range` keep, and why they end.
use mathlib.Core.Bool.{true}
use Prim.Native.Nat.{◌-◌}
use Rattle.call.specs.Write.{call_in_range, call_is_zero}
use Rattle.nch_write.proofs.Testing.{Places}
use Rattle.nch_write.proofs.checks.calls_in_range.Given as goal

abbrev pub invariant-loop-i : goal.invariant-loop-i
invariant-loop-i l = Places call_in_range call_is_zero l.n l.calls 4 true l.i

abbrev pub decreases-loop-i : goal.decreases-loop-i
decreases-loop-i l = 4 - l.i

-- What the loops of `nch_write::checks::calls_tested` keep, and why they end.
use mathlib.Core.Bool.{true}
use Prim.Native.Nat.{◌-◌}
use Rattle.call.specs.Write.{call_is_low, call_length_right, call_hops_right}
use Rattle.nch_write.proofs.Testing.{Places}
use Rattle.nch_write.proofs.checks.calls_tested.Given as goal

abbrev pub invariant-loop-i : goal.invariant-loop-i
invariant-loop-i l =
    Places call_is_low (λ a. true) l.n l.calls 4 l.low l.i × (Places call_length_right (λ a. true) l.n l.calls 4 l.lengths l.i × Places call_hops_right (λ a. true) l.n l.calls 4 l.hops l.i)

abbrev pub decreases-loop-i : goal.decreases-loop-i
decreases-loop-i l = 4 - l.i

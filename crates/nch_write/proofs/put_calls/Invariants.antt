-- What the loops of `nch_write::put_calls` keep, and why they end.
use mathlib.Core.List.{map}
use Prim.Native.Nat.{◌+◌, ◌-◌, ◌*◌, ◌≤◌}
use lib.ListN.{take}
use Rattle.call.specs.Call.{group_call, call_value}
use Rattle.nch_write.proofs.Putting.{Items}
use Rattle.nch_write.proofs.put_calls.Given as goal

abbrev pub invariant-loop-i : goal.invariant-loop-i
invariant-loop-i l = (l.i ≤ l.count) × ((l.q.at ≤ l.initial.q.at + 136 * l.i) × Items group_call l.initial.q (map call_value (take l.count l.calls)) l.i l.q)

abbrev pub decreases-loop-i : goal.decreases-loop-i
decreases-loop-i l = l.count - l.i

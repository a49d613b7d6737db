-- What the loops of `nch_write::put_marks` keep, and why they end.
use mathlib.Core.List.{map}
use Prim.Native.Nat.{◌+◌, ◌-◌, ◌*◌, ◌≤◌}
use lib.ListN.{take}
use Rattle.csn1.specs.Format.{num}
use Rattle.csn1.specs.Told.{as_bit}
use Rattle.nch_write.proofs.Putting.{Items}
use Rattle.nch_write.proofs.put_marks.Given as goal

abbrev pub invariant-loop-i : goal.invariant-loop-i
invariant-loop-i l = (l.i ≤ l.count) × ((l.q.at ≤ l.initial.q.at + 2 * l.i) × Items (num 1) l.initial.q (map as_bit (take l.count l.marks)) l.i l.q)

abbrev pub decreases-loop-i : goal.decreases-loop-i
decreases-loop-i l = l.count - l.i

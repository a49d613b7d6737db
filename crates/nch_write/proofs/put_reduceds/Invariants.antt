-- What the loops of `nch_write::put_reduceds` keep, and why they end.
use mathlib.Core.List.{map}
use Prim.Native.Nat.{◌+◌, ◌-◌, ◌*◌, ◌≤◌}
use lib.ListN.{take}
use Rattle.csn1.specs.Grammar.{format}
use Rattle.nch.specs.Octets.{reduced}
use Rattle.nch.specs.Told.{reduced_value}
use Rattle.nch_write.proofs.Putting.{Items}
use Rattle.nch_write.proofs.put_reduceds.Given as goal

abbrev pub invariant-loop-i : goal.invariant-loop-i
invariant-loop-i l = (l.i ≤ l.count) × ((l.q.at ≤ l.initial.q.at + 29 * l.i) × Items (format reduced) l.initial.q (map reduced_value (take l.count l.items)) l.i l.q)

abbrev pub decreases-loop-i : goal.decreases-loop-i
decreases-loop-i l = l.count - l.i

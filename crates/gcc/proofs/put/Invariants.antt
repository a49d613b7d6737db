-- What the loops of `gcc::put` keep, and why they end.
use mathlib.Core.Path.{◌≡◌}
use mathlib.Core.List.{◌++◌}
use Prim.Native.Nat.{◌≤◌}
use lib.ListN.{length, drop}
use Rattle.gcc.specs.Numeral.{spell}
use Rattle.gcc.proofs.put.Given as goal

abbrev pub invariant-loop-i : goal.invariant-loop-i
invariant-loop-i l = (l.i ≤ length l.initial.octets) × (length l.octets ≡ length l.initial.octets) × (spell 256 0 (length l.initial.octets) l.n ≡ spell 256 0 l.i l.rest ++ drop l.i l.octets)

abbrev pub decreases-loop-i : goal.decreases-loop-i
decreases-loop-i l = l.i

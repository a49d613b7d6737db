-- What the loop of `arrays::fill::copy` keeps.
use mathlib.Core.Path.{◌≡◌}
use Prim.Native.Nat.{◌≤◌}
use lib.ListN.{length, take}
use Rattle.arrays.proofs.fill.copy.Given as goal

abbrev pub invariant-loop-i : goal.invariant-loop-i
invariant-loop-i l = (l.i ≤ l.n) × ((length l.numbers ≡ length l.initial.numbers) × (take l.i l.numbers ≡ take l.i l.values))

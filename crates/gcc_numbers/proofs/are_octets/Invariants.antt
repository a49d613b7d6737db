-- What the loops of `gcc_numbers::are_octets` keep, and why they end.
use mathlib.Core.Path.{◌≡◌}
use Prim.Native.Nat.{◌-◌, ◌≤◌}
use lib.ListN.{length, drop}
use Rattle.arrays.specs.Limits.{within}
use Rattle.gcc_numbers.proofs.Octets.{Most}
use Rattle.gcc_numbers.proofs.are_octets.Given as goal

abbrev pub invariant-loop-i : goal.invariant-loop-i
invariant-loop-i l = (l.i ≤ length l.numbers) × (within l.numbers (Most l.numbers) ≡ within (drop l.i l.numbers) (drop l.i (Most l.numbers)))

abbrev pub decreases-loop-i : goal.decreases-loop-i
decreases-loop-i l = length l.numbers - l.i

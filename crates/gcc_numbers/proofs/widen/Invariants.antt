-- What the loops of `gcc_numbers::widen` keep, and why they end.
use mathlib.Core.Path.{◌≡◌}
use Prim.Native.Nat.{◌-◌, ◌≤◌}
use lib.ListN.{length, take}
use lib.Seq.{sets}
use Rattle.gcc_numbers.proofs.widen.Given as goal

abbrev pub invariant-loop-i : goal.invariant-loop-i
invariant-loop-i l = (l.i ≤ length l.octets) × ((length l.numbers ≡ length l.initial.numbers) × (l.numbers ≡ sets l.initial.numbers l.at (take l.i l.octets)))

abbrev pub decreases-loop-i : goal.decreases-loop-i
decreases-loop-i l = length l.octets - l.i

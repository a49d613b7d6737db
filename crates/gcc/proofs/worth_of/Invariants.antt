-- What the loops of `gcc::worth_of` keep, and why they end.
use mathlib.Core.Path.{◌≡◌}
use Prim.Native.Nat.{◌≤◌, ◌<◌, ◌-◌, ◌^◌}
use lib.ListN.{length, drop}
use Rattle.gcc.specs.Numeral.{worth}
use Rattle.gcc.proofs.worth_of.Given as goal

abbrev pub invariant-loop-i : goal.invariant-loop-i
invariant-loop-i l = (l.i ≤ length l.s) × (l.n < l.base ^ l.i) × (worth l.base l.nought 0 l.s ≡ worth l.base l.nought l.n (drop l.i l.s))

abbrev pub decreases-loop-i : goal.decreases-loop-i
decreases-loop-i l = length l.s - l.i

-- What the loop of `arrays::fill::run` keeps.
use mathlib.Core.Path.{◌≡◌}
use Prim.Native.Nat.{◌≤◌}
use lib.ListN.{length, take}
use Rattle.arrays.specs.Runs.{stored}
use Rattle.arrays.proofs.fill.run.Given as goal

abbrev pub invariant-loop-i : goal.invariant-loop-i
invariant-loop-i l = (l.i ≤ length l.values) × ((length l.numbers ≡ length l.initial.numbers) × (l.numbers ≡ stored l.initial.numbers l.at (take l.i l.values)))

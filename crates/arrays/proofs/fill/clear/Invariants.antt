-- What the loop of `arrays::fill::clear` keeps.
use mathlib.Core.Path.{◌≡◌}
use lib.ListN.{length, take}
use Rattle.csn1.specs.Told.{padded}
use Rattle.arrays.proofs.fill.clear.Given as goal

abbrev pub invariant-loop-i : goal.invariant-loop-i
invariant-loop-i l = (length l.numbers ≡ length l.initial.numbers) × (padded 0 (length l.initial.numbers) (take l.i l.numbers) ≡ padded 0 (length l.initial.numbers) (take l.from l.initial.numbers))

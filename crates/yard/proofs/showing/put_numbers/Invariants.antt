-- What the loop of `yard::showing::put_numbers` keeps.
use mathlib.Core.Path.{◌≡◌}
use lib.ListN.{length, take}
use Rattle.csn1.specs.Told.{padded}
use Rattle.yard.specs.Inner.{numbers_of}
use Rattle.yard.proofs.showing.put_numbers.Given as goal

abbrev pub invariant-loop-k : goal.invariant-loop-k
invariant-loop-k l = take l.k l.numbers ≡ take l.k (padded 0 (length l.initial.numbers) (numbers_of l.b l.i))

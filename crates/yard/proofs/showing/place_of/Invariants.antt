-- What the loop of `yard::showing::place_of` keeps.
use mathlib.Core.Path.{◌≡◌}
use Rattle.yard.specs.Yard.{called_no}
use Rattle.yard.specs.Octets.{yard_of}
use Rattle.yard.proofs.ShownCalls.{rest, numbers_in}
use Rattle.yard.proofs.showing.place_of.Given as goal

abbrev pub invariant-loop-i : goal.invariant-loop-i
invariant-loop-i l = called_no (yard_of l.b) l.n ≡ numbers_in l.b (rest l.b l.i) l.ahead

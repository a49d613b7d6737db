-- What the loop of `yard::settling::bring_first` keeps.
use mathlib.Core.Path.{◌≡◌}
use lib.ListN.{length}
use Rattle.yard.specs.Octets.{yard_length, brought_run}
use Rattle.yard.proofs.settling.bring_first.Given as goal

abbrev pub invariant-loop-j : goal.invariant-loop-j
invariant-loop-j l = (length l.b ≡ yard_length) × (l.b ≡ brought_run l.j l.initial.b)

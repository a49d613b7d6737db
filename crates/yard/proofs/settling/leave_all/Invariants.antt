-- What the loop of `yard::settling::leave_all` keeps.
use mathlib.Core.Path.{◌≡◌}
use lib.ListN.{length}
use Rattle.yard.specs.Octets.{yard_length, left_run}
use Rattle.yard.proofs.settling.leave_all.Given as goal

abbrev pub invariant-loop-i : goal.invariant-loop-i
invariant-loop-i l = (length l.b ≡ yard_length) × (l.b ≡ left_run l.all l.time l.i l.initial.b)

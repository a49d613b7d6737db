-- What the loop of `yard::settling::none_shown` keeps.
use mathlib.Core.Path.{◌≡◌}
use Rattle.yard.specs.Inner.{NoCalls}
use Rattle.yard.proofs.settling.none_shown.Given as goal

abbrev pub invariant-loop-i : goal.invariant-loop-i
invariant-loop-i l = l.all ≡ 0 → NoCalls l.b l.i

-- What the loop of `yard::showing::count` keeps.
use mathlib.Core.Path.{◌≡◌}
use Prim.Native.Nat.{◌+◌, ◌≤◌}
use Rattle.yard.proofs.ShownCalls.{shown}
use Rattle.yard.proofs.showing.count.Given as goal

abbrev pub invariant-loop-i : goal.invariant-loop-i
invariant-loop-i l = (l.n ≤ l.i) × (l.n + shown l.b l.i ≡ shown l.b 0)

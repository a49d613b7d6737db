-- What the loop of `views::held::count` keeps.
use mathlib.Core.Path.{◌≡◌}
use Prim.Native.Nat.{◌+◌, ◌≤◌}
use lib.ListN.{length}
use Rattle.views.proofs.Holding.{rest}
use Rattle.views.proofs.held.count.Given as goal

abbrev pub invariant-loop-i : goal.invariant-loop-i
invariant-loop-i l = (l.n ≤ l.i) × (l.n + length (rest l.b l.i) ≡ length (rest l.b 0))

-- What the loop of `layout::looking::idle` keeps.
use mathlib.Core.Path.{◌≡◌}
use Prim.Native.Nat.{◌*◌}
use Rattle.layout.specs.Layout.{kinds_from}
use Rattle.layout.proofs.NoneOut.{Zeros}
use Rattle.layout.proofs.looking.idle.Given as goal

abbrev pub invariant-loop-k : goal.invariant-loop-k
invariant-loop-k l = l.all ≡ 0 → Zeros l.b kinds_from (8 * l.k)

-- What the loop of `layout::looking::all_run` keeps.
use mathlib.Core.Path.{◌≡◌}
use Prim.Native.Nat.{◌*◌}
use Rattle.layout.specs.Inner.{Running}
use Rattle.layout.proofs.looking.all_run.Given as goal

abbrev pub invariant-loop-g : goal.invariant-loop-g
invariant-loop-g l = (l.j ≡ 3 * l.g) × Running l.tick l.b 0 (24 * l.g)

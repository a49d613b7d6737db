-- What the loop of `layout::looking::bare` keeps.
use Prim.Native.Nat.{◌*◌}
use Rattle.layout.proofs.Left.{Seen}
use Rattle.layout.proofs.looking.bare.Given as goal

abbrev pub invariant-loop-g : goal.invariant-loop-g
invariant-loop-g l = Seen l.b 0 (24 * l.g) l.x × (Seen l.b 8 (24 * l.g) l.y × Seen l.b 16 (24 * l.g) l.z)

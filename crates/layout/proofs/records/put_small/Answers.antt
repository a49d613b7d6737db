-- `layout::records::put_small` meets its contract. Assumes nothing.
use mathlib.Core.Path.{◌≡◌, refl, ◌∙◌}
use mathlib.Core.List.{List, [], ◌∷◌}
use Prim.Native.Nat.{ℕ, ◌+◌}
use native.Mathlib.Numerals.{towards_suc}
use native.Mathlib.Omega.{arith}
use lib.ListN.{set, length-set}
use Rattle.arrays.specs.Runs.{stored}
use Rattle.arrays.proofs.Running.{more}
use Rattle.layout.specs.Octets.{low_octets}
use Rattle.layout.proofs.records.put_small.Goals as goal

-- eight octets, stored one by one
eight : (l : List ℕ) (at o p q r s t u v : ℕ)
    → set (set (set (set (set (set (set (set l at o) (at + 1) p) (at + 2) q) (at + 3) r) (at + 4) s) (at + 5) t) (at + 6) u) (at + 7) v
    ≡ stored l at (o ∷ p ∷ q ∷ r ∷ s ∷ t ∷ u ∷ v ∷ [])
unfolding stored
eight l at o p q r s t u v = simp towards_suc

pub bounds-b-at-2 : goal.bounds-b-at-2
bounds-b-at-2 c = simp length-set (omega arith)

pub bounds-b-at-3 : goal.bounds-b-at-3
bounds-b-at-3 c = simp length-set (omega arith)

pub bounds-b-at-4 : goal.bounds-b-at-4
bounds-b-at-4 c = simp length-set (omega arith)

pub bounds-b-at-5 : goal.bounds-b-at-5
bounds-b-at-5 c = simp length-set (omega arith)

pub bounds-b-at-6 : goal.bounds-b-at-6
bounds-b-at-6 c = simp length-set (omega arith)

pub bounds-b-at-7 : goal.bounds-b-at-7
bounds-b-at-7 c = simp length-set (omega arith)

pub bounds-b-at-8 : goal.bounds-b-at-8
bounds-b-at-8 c = simp length-set (omega arith)

pub put_u32-requires : goal.put_u32-requires
put_u32-requires c = simp length-set (omega arith)

pub shape_of-b : goal.shape_of-b
shape_of-b c = c.put_u32.auto.b ∙ simp length-set

pub returns : goal.returns
unfolding low_octets
returns c = more 8 _ _ _ _ _ _ (eight _ _ _ _ _ _ _ _ _ _) refl c.put_u32.ensures

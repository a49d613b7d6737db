-- `layout::answer::put_said` meets its contract. Assumes nothing.
use mathlib.Core.Path.{◌≡◌}
use mathlib.Core.List.{List, [], ◌∷◌}
use Prim.Native.Nat.{ℕ, ◌*◌, ◌+◌}
use native.Mathlib.Omega.{arith}
use Rattle.arrays.specs.Runs.{stored}
use Rattle.receiver.specs.declared.Told.{Told}
use Rattle.layout.specs.Octets.{low_octets}
use Rattle.layout.specs.Layout.{tolds_from, told_length, told_place, put_number}
use Rattle.layout.proofs.answer.put_said.Goals as goal

numbered : (l k m : List ℕ) (j : ℕ) (t : Told) → k ≡ stored l (told_place j) (low_octets 8 t.key)
    → m ≡ stored k (tolds_from + 8 + told_length * j) (t.number ∷ t.follow ∷ t.kept ∷ []) → m ≡ put_number l j t
unfolding put_number
numbered l k m j t p s =
    let q : tolds_from + 8 + told_length * j ≡ told_place j + 8 = omega arith in
    rw (← q, ← p) s

pub returns : goal.returns
returns c = numbered _ _ _ _ _ c.put_u64.ensures c.put_three.ensures

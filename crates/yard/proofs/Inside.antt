-- The receiver's octets inside a yard set's, and the calls behind them. Assumes nothing.
use mathlib.Core.Path.{◌≡◌, refl, sym, ap, ◌∙◌}
use mathlib.Core.List.{List, [], ◌∷◌, ◌++◌}
use Prim.Native.Nat.{ℕ, suc, ◌+◌, ◌≤◌, ◌<◌}
use native.Mathlib.Omega.{arith}
use lib.ListN.{length, take, get_or, set, length-append, length-drop, take-append-drop}
use lib.Seq.{sets, length-take-le, take_at, get_or-append-add, get_or-take, get_or-drop, take-set-le}
use Rattle.arrays.specs.Runs.{stored}
use Rattle.layout.specs.Layout.{state_length}
use Rattle.yard.specs.Octets.{yard_length, inside, behind}

pub whole-inside : (l : List ℕ) → length l ≡ yard_length → length (inside l) ≡ state_length
whole-inside l h = length-take-le state_length l (omega arith)

pub inside-at : (l : List ℕ) (j : ℕ) → j < state_length → get_or (inside l) j 0 ≡ get_or l j 0
inside-at l j h = get_or-take state_length l j 0 h

pub put_back : (l : List ℕ) → inside l ++ behind l ≡ l
put_back l = take-append-drop state_length l

module _ (ys l : List ℕ) (n : length ys ≡ state_length) where
  pub inside-front : inside (ys ++ behind l) ≡ ys
  inside-front = take_at ys (behind l) state_length n

  pub behind-at : (k : ℕ) → get_or (ys ++ behind l) (state_length + k) 0 ≡ get_or l (state_length + k) 0
  behind-at k = ap (λ (m : ℕ). get_or (ys ++ behind l) (m + k) 0) (sym n) ∙ get_or-append-add ys (behind l) k 0 ∙ get_or-drop state_length l k 0

  pub length_front : length l ≡ yard_length → length (ys ++ behind l) ≡ yard_length
  length_front h = length-append ys (behind l) ∙ omega (arith, n, length-drop state_length l)

take_sets : (n : ℕ) (l : List ℕ) (at : ℕ) (vs : List ℕ) → n ≤ at → take n (sets l at vs) ≡ take n l
take_sets n l at [] h = refl
take_sets n l at (v ∷ vs) h = take_sets n (set l at v) (suc at) vs (omega arith) ∙ take-set-le n l at v h

-- what is stored behind the receiver does not change it
pub inside-stored : (l : List ℕ) (at : ℕ) (vs : List ℕ) → state_length ≤ at → inside (stored l at vs) ≡ inside l
unfolding stored
inside-stored l at vs h = take_sets state_length l at vs h

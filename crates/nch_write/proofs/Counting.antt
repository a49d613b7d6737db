-- How many of a list's first values pass a test, counted one by one. Assumes nothing.
use mathlib.Core.Path.{◌≡◌, ap, ap₂, sym, ◌∙◌}
use mathlib.Core.List.{List, ◌∷◌}
use mathlib.Core.Bool.{Bool, true, false}
use Prim.Native.Nat.{ℕ, suc, ◌+◌, ◌-◌, ◌≤◌, ◌<◌}
use native.Mathlib.Numerals.{add-one}
use native.Mathlib.Omega.{arith}
use mir.Val.{bool_byte}
use lib.ListN.{length, get_or, take, drop, drop_of_length-le}
use lib.Seq.{drop-cons, take-nil}
use Rattle.bits.specs.Field.{pick}
use Rattle.nch.specs.Octets.{count}

-- at the head of a loop over a list: of the first i, and the first n, as many as found pass
pub record Counted {A : Type 0} (t : A → Bool) (n : ℕ) (l : List A) (found i : ℕ) : Type 0 where
  pub few : found ≤ i
  pub rest : count t (take n l) ≡ found + count t (take (n - i) (drop i l))

module _ {A : Type 0} (t : A → Bool) (n : ℕ) (l : List A) where
  pub counted_begin : Counted t n l 0 0
  counted_begin = let e : n ≡ n - 0 = omega arith in record { few = omega arith; rest = ap (λ (k : ℕ). count t (take k l)) e ∙ omega arith }

  module _ (found i : ℕ) (c : Counted t n l found i) where
    -- behind the first n
    pub counted-past : n ≤ i → Counted t n l found (i + 1)
    counted-past h =
        let a : n - i ≡ 0 = omega arith in
        let b : n - (i + 1) ≡ 0 = omega arith in
        record {
          few = omega (arith, c.few);
          rest = c.rest ∙ ap (λ (k : ℕ). found + count t (take k (drop i l))) a ∙ sym (ap (λ (k : ℕ). found + count t (take k (drop (i + 1) l))) b);
        }

    -- one of the first n
    next : (z : A) → i < length l → i < n → count t (take n l) ≡ found + pick (t (get_or l i z)) (1 + count t (take (n - (i + 1)) (drop (i + 1) l))) (count t (take (n - (i + 1)) (drop (i + 1) l)))
    next z h k =
        let a : n - i ≡ suc (n - (i + 1)) = omega arith in
        c.rest ∙ ap₂ (λ (m : ℕ) (y : List A). found + count t (take m y)) a (drop-cons l i z h)
        ∙ ap (λ (j : ℕ). found + count t (get_or l i z ∷ take (n - (i + 1)) (drop j l))) (sym (add-one i))

    pub counted_next : (z : A) → i < length l → i < n → (b : Bool) → b ≡ t (get_or l i z) → Counted t n l (found + bool_byte b) (i + 1)
    counted_next z h k true e = record { few = omega (arith, c.few); rest = (rw (← e) at (next z h k)) ∙ omega arith }
    counted_next z h k false e = record { few = omega (arith, c.few); rest = (rw (← e) at (next z h k)) ∙ omega arith }

    -- the list is at its end
    pub counted-end : length l ≤ i → found ≡ count t (take n l)
    counted-end h =
        sym (c.rest ∙ ap (λ (y : List A). found + count t (take (n - i) y)) (drop_of_length-le l {i = i} h)
        ∙ ap (λ (y : List A). found + count t y) (take-nil (n - i)) ∙ omega arith)

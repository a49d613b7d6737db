-- Lists in places: an array whose first places are in use and whose others are zero, and the list of values that it says. Assumes nothing.
use mathlib.Core.Path.{◌≡◌, refl, sym, ap, ap₂}
use mathlib.Core.List.{List, [], ◌∷◌, map}
use mathlib.Core.Bool.{Bool, true, false}
use Prim.Native.Nat.{ℕ, zero, suc, ◌+◌, ◌≤◌}
use native.Mathlib.Omega.{arith}
use lib.ListN.{length, take}
use Rattle.bits.specs.Field.{both, pick}
use Rattle.csn1.specs.Format.{Format, ItemsFit}
use Rattle.csn1.specs.Told.{padded}
use Rattle.bits.proofs.Answers.{both_true}
use Rattle.csn1.proofs.Telling.{true-both}
use Rattle.nch.specs.Octets.{count}
use Rattle.nch.specs.Write.{places_right, all}

-- ## From an array to its values

module _ {A : Type 0} (z : A) (good zeroed : A → Bool) (zero_is : (a : A) → zeroed a ≡ true → a ≡ z) where
  places-none : (l : List A) → places_right good zeroed zero l ≡ true → padded z (length l) [] ≡ l
  unfolding places_right
  places-none [] e = refl
  places-none (a ∷ l) e =
      let b = both_true (zeroed a) (places_right good zeroed zero l) e in
      ap₂ (λ x y. x ∷ y) (sym (zero_is a b.0)) (places-none l b.1)

  -- an array of k places, none of them in use
  pub places-empty : (k n : ℕ) (l : List A) → length l ≡ k → n ≡ 0 → places_right good zeroed n l ≡ true → padded z k [] ≡ l
  places-empty k n l s o e = rw (← s) (places-none l (rw o at e))

  module _ {B : Type 0} (told : B → A) (value : A → B) (back : (a : A) → good a ≡ true → told (value a) ≡ a) where
    places-told : (n : ℕ) (l : List A) → places_right good zeroed n l ≡ true → padded z (length l) (map told (map value (take n l))) ≡ l
    unfolding places_right
    places-told zero l e = places-none l e
    places-told (suc n) [] e = refl
    places-told (suc n) (a ∷ l) e =
        let b = both_true (good a) (places_right good zeroed n l) e in
        ap₂ (λ x y. x ∷ y) (back a b.0) (places-told n l b.1)

    -- an array of k places is its values, told and filled up
    pub places-back : (k n : ℕ) (l : List A) → length l ≡ k → places_right good zeroed n l ≡ true → padded z k (map told (map value (take n l))) ≡ l
    places-back k n l s e = rw (← s) (places-told n l e)

-- the places in use pass the test
pub places-good : {A : Type 0} (good zeroed : A → Bool) (n : ℕ) (l : List A) → places_right good zeroed n l ≡ true → all good (take n l) ≡ true
unfolding places_right all
places-good good zeroed zero l e = refl
places-good good zeroed (suc n) [] e = refl
places-good good zeroed (suc n) (a ∷ l) e =
    let b = both_true (good a) (places_right good zeroed n l) e in
    true-both b.0 (places-good good zeroed n l b.1)

pub all_both : {A : Type 0} (s t : A → Bool) (l : List A) → all s l ≡ true → all t l ≡ true → all (λ a. both (s a) (t a)) l ≡ true
unfolding all
all_both s t [] e f = refl
all_both s t (a ∷ l) e f =
    let b = both_true (s a) (all s l) e in
    let c = both_true (t a) (all t l) f in
    true-both (true-both b.0 c.0) (all_both s t l b.1 c.1)

pub items-fit : {A B : Type 0} (F : Format B) (value : A → B) (good : A → Bool) → ((a : A) → good a ≡ true → F.fits (value a))
    → (l : List A) → all good l ≡ true → ItemsFit F (map value l)
unfolding all
items-fit F value good f [] e = tt
items-fit F value good f (a ∷ l) e =
    let b = both_true (good a) (all good l) e in
    (f a b.0, items-fit F value good f l b.1)

-- ## From values to an array

module _ {A B : Type 0} (F : Format B) (told : B → A) (z : A) where
  -- what holds of each value told holds of the places in use
  pub told-all : (t : A → Bool) → ((v : B) → F.fits v → t (told v) ≡ true)
      → (n : ℕ) (l : List B) → ItemsFit F l → all t (take (length l) (padded z n (map told l))) ≡ true
  unfolding all
  told-all t f zero [] k = refl
  told-all t f zero (v ∷ l) k = refl
  told-all t f (suc n) [] k = refl
  told-all t f (suc n) (v ∷ l) k = true-both (f v k.0) (told-all t f n l k.1)

  pub told-places : (good zeroed : A → Bool) → zeroed z ≡ true → ((v : B) → F.fits v → good (told v) ≡ true)
      → (n : ℕ) (l : List B) → ItemsFit F l → places_right good zeroed (length l) (padded z n (map told l)) ≡ true
  unfolding places_right
  told-places good zeroed e f zero l k = refl
  told-places good zeroed e f (suc n) [] k = true-both e (told-places good zeroed e f n [] k)
  told-places good zeroed e f (suc n) (v ∷ l) k = true-both (f v k.0) (told-places good zeroed e f n l k.1)

  -- the places in use say the values
  pub told_back : (value : A → B) → ((v : B) → F.fits v → value (told v) ≡ v)
      → (n : ℕ) (l : List B) → ItemsFit F l → length l ≤ n → map value (take (length l) (padded z n (map told l))) ≡ l
  told_back value f n [] k h = refl
  told_back value f zero (v ∷ l) k h = absurd (omega arith)
  told_back value f (suc n) (v ∷ l) k h = ap₂ (λ x y. x ∷ y) (f v k.0) (told_back value f n l k.1 (omega arith))

pub take-told : {A B : Type 0} (told : B → A) (z : A) (n : ℕ) (l : List B) → length l ≤ n → take (length l) (padded z n (map told l)) ≡ map told l
take-told told z n [] h = refl
take-told told z zero (v ∷ l) h = absurd (omega arith)
take-told told z (suc n) (v ∷ l) h = ap (λ x. told v ∷ x) (take-told told z n l (omega arith))

-- ## How many pass a test

pub count_map : {A B : Type 0} (f : A → B) (t : A → Bool) (u : B → Bool) → ((a : A) → u (f a) ≡ t a) → (l : List A) → count u (map f l) ≡ count t l
count_map f t u e [] = refl
count_map f t u e (a ∷ l) = ap₂ (λ (b : Bool) (n : ℕ). pick b (1 + n) n) (e a) (count_map f t u e l)

pick_le : (b : Bool) (n k : ℕ) → n ≤ k → pick b (1 + n) n ≤ suc k
pick_le true n k h = omega arith
pick_le false n k h = omega arith

pub count_le : {A : Type 0} (t : A → Bool) (l : List A) → count t l ≤ length l
count_le t [] = omega arith
count_le t (a ∷ l) = pick_le (t a) (count t l) (length l) (count_le t l)

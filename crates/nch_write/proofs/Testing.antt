-- What a loop that tests the places of a list goes by: the places that are left decide the rest. Assumes nothing.
use mathlib.Core.Path.{◌≡◌, refl, sym, ap, ◌∙◌}
use mathlib.Core.List.{List, [], ◌∷◌}
use mathlib.Core.Bool.{Bool, true, false}
use Prim.Native.Nat.{ℕ, zero, suc, ◌+◌, ◌-◌, ◌≤◌, ◌<◌}
use native.Mathlib.Numerals.{add-one}
use native.Mathlib.Omega.{arith}
use lib.ListN.{length, get_or, take, drop, drop_of_length-le}
use lib.Seq.{drop-cons}
use Rattle.bits.specs.Field.{both}
use Rattle.nch.specs.Write.{places_right, all}

-- ## Booleans

pub both_yes : (a : Bool) → both a true ≡ a
both_yes true = refl
both_yes false = refl

both_assoc : (a b c : Bool) → both a (both b c) ≡ both (both a b) c
both_assoc true b c = refl
both_assoc false b c = refl

-- ## What is left

used : (n i : ℕ) → i < n → n - i ≡ suc (n - (i + 1))
used n i h = omega arith

unused : (n i : ℕ) → n ≤ i → n - i ≡ 0
unused n i h = omega arith

drop-next : {A : Type 0} (l : List A) (i : ℕ) (d : A) → i < length l → drop i l ≡ get_or l i d ∷ drop (i + 1) l
drop-next l i d h = rw (add-one i) (drop-cons l i d h)

-- ## Tests

-- at the head of a loop that tests k places one by one: whether the first i are right is `so`
pub record Places {A : Type 0} (good zeroed : A → Bool) (n : ℕ) (l : List A) (k : ℕ) (so : Bool) (i : ℕ) : Type 0 where
  pub long : length l ≡ k
  pub rest : places_right good zeroed n l ≡ both so (places_right good zeroed (n - i) (drop i l))

places-none : {A : Type 0} (good zeroed : A → Bool) (n : ℕ) → places_right good zeroed n [] ≡ true
unfolding places_right
places-none good zeroed zero = refl
places-none good zeroed (suc n) = refl

pub places_begin : {A : Type 0} (good zeroed : A → Bool) (n : ℕ) (l : List A) (k : ℕ) → length l ≡ k → Places good zeroed n l k true 0
places_begin good zeroed n l k e = record { long = e; rest = ap (λ j. places_right good zeroed j l) (omega arith) }

module _ {A : Type 0} {good zeroed : A → Bool} {n : ℕ} {l : List A} {k : ℕ} {so : Bool} {i : ℕ} (p : Places good zeroed n l k so i) where
  -- one more place, right or not as b says
  next : (b new : Bool) → places_right good zeroed (n - i) (drop i l) ≡ both b (places_right good zeroed (n - (i + 1)) (drop (i + 1) l)) → both so b ≡ new
      → Places good zeroed n l k new (i + 1)
  next b new e g =
      let r : Bool = places_right good zeroed (n - (i + 1)) (drop (i + 1) l) in
      record { long = p.long; rest = p.rest ∙ ap (both so) e ∙ both_assoc so b r ∙ ap (λ x. both x r) g }

  -- a place in use, and an unused one
  pub places-used : (d : A) {new : Bool} → i < k → i < n → both so (good (get_or l i d)) ≡ new → Places good zeroed n l k new (i + 1)
  unfolding places_right
  places-used d {new} h m g = next (good (get_or l i d)) new (rw (used n i m, drop-next l i d (omega (arith, p.long)))) g

  pub places-unused : (d : A) {new : Bool} → i < k → n ≤ i → both so (zeroed (get_or l i d)) ≡ new → Places good zeroed n l k new (i + 1)
  unfolding places_right
  places-unused d {new} h m g =
      next (zeroed (get_or l i d)) new (rw (unused n i m, unused n (i + 1) (omega arith), drop-next l i d (omega (arith, p.long)))) g

  pub places-end : k ≤ i → so ≡ places_right good zeroed n l
  places-end h =
      sym (p.rest ∙ ap (λ x. both so (places_right good zeroed (n - i) x)) (drop_of_length-le l {i = i} (omega (arith, p.long)))
      ∙ ap (both so) (places-none good zeroed (n - i)) ∙ both_yes so)

-- once a place failed, the whole does
pub places_failed : {A : Type 0} {good zeroed : A → Bool} {n : ℕ} {l : List A} {k i : ℕ} → Places good zeroed n l k false i
    → false ≡ places_right good zeroed n l
places_failed p = sym p.rest

-- to test the first n is to ask nothing of the places behind them
pub all-places : {A : Type 0} (t : A → Bool) (n : ℕ) (l : List A) → places_right t (λ a. true) n l ≡ all t (take n l)
unfolding places_right all
all-places t zero [] = refl
all-places t zero (a ∷ l) = all-places t zero l
all-places t (suc n) [] = refl
all-places t (suc n) (a ∷ l) = ap (both (t a)) (all-places t n l)

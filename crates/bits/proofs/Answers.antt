-- What a fetch and a put answer, by what was tested. Assumes nothing.
use mathlib.Core.Path.{◌≡◌, refl, sym, ap, ◌∙◌, subst}
use mathlib.Core.List.{List}
use mathlib.Core.Bool.{Bool, true, false, not}
use Prim.Native.Nat.{ℕ, ◌+◌, ◌*◌, ◌/◌, ◌^◌, ◌≤◌, ◌<◌}
use native.Mathlib.Nat.{div-eq_of_lt, div-lt_iff_lt-mul, one-mul}
use native.Mathlib.Decide.{dec_lt}
use native.Mathlib.Omega.{arith}
use lib.ListN.{length}
use lib.Dec.{leb, ltb, eqb}
use lib.Pow.{pow_pos}
use borrow.Author.Tests.{leb-true, le-leb, lt-leb, lt-ltb, le-ltb, eq-eqb, ne_eqb, not-true, not-false}
use Rattle.bits.specs.declared.Got.TheVariants.{Bits, Short}
use Rattle.bits.specs.Field.{both, inside, field, fetched, set_field, can_put, after_put}

-- ## Tests

both_false : (b : Bool) → both b false ≡ false
both_false true = refl
both_false false = refl

pub both_true : (a b : Bool) → both a b ≡ true → (a ≡ true) × (b ≡ true)
both_true true b e = (refl, e)
both_true false b e = (cc, cc)

pub too_wide : (n at w : ℕ) → 64 < w → false ≡ both (leb w 64) (leb (at + w) (n * 8))
too_wide n at w h = rw (lt-leb w 64 h)

pub run_out : (n at w : ℕ) → n * 8 < at + w → false ≡ both (leb w 64) (leb (at + w) (n * 8))
run_out n at w h = rw (lt-leb (at + w) (n * 8) h) (sym (both_false (leb w 64)))

pub in_reach : (n at w : ℕ) → w ≤ 64 → at + w ≤ n * 8 → true ≡ both (leb w 64) (leb (at + w) (n * 8))
in_reach n at w h l = rw (le-leb w 64 h) (sym (le-leb (at + w) (n * 8) l))

pub all-bits : (w v : ℕ) → w ≡ 64 → v < 2 ^ 64 → true ≡ ltb v (2 ^ w)
all-bits w v e h = rw e (sym (lt-ltb v (2 ^ 64) h))

-- a number has at most w bits where nothing is left above them
pub none_above : (w v : ℕ) → eqb (v / 2 ^ w) 0 ≡ ltb v (2 ^ w)
none_above w v = go (dec_lt v (2 ^ w))
  where
    below : v / 2 ^ w ≡ 0 → v < 2 ^ w
    below e = subst (λ (x : ℕ). v < x) (one-mul (2 ^ w)) ((div-lt_iff_lt-mul (pow_pos w)).0 (omega arith))

    go : Dec (v < 2 ^ w) → eqb (v / 2 ^ w) 0 ≡ ltb v (2 ^ w)
    go (yes h) = eq-eqb (v / 2 ^ w) 0 (div-eq_of_lt h) ∙ sym (lt-ltb v (2 ^ w) h)
    go (no h) = ne_eqb (v / 2 ^ w) 0 (λ e. h (below e)) ∙ sym (le-ltb v (2 ^ w) (omega arith))

-- ## Answers, where r says whether the bits are there

module _ (s : List ℕ) (at w : ℕ) (r : Bool) (e : r ≡ inside s at w) where
  outside : not r ≡ true → inside s at w ≡ false
  outside n = sym e ∙ not-true r n

  there : not r ≡ false → inside s at w ≡ true
  there n = sym e ∙ not-false r n

  pub has : not r ≡ false → (w ≤ 64) × (at + w ≤ length s * 8)
  has n =
      let b = both_true (leb w 64) (leb (at + w) (length s * 8)) (there n) in
      (leb-true w 64 b.0, leb-true (at + w) (length s * 8) b.1)

  pub fetched-short : not r ≡ true → Short ≡ fetched s at w
  unfolding fetched
  fetched-short n = rw (outside n)

  pub fetched-bits : (v : ℕ) → not r ≡ false → v ≡ field s at w → Bits v ≡ fetched s at w
  unfolding fetched
  fetched-bits v n f = rw (there n) (ap Bits f)

  refused : (v : ℕ) → can_put s at w v ≡ false → (false ≡ can_put s at w v) × (s ≡ after_put s at w v)
  unfolding after_put
  refused v f = (sym f, rw f)

  pub put_outside : (v : ℕ) → not r ≡ true → (false ≡ can_put s at w v) × (s ≡ after_put s at w v)
  unfolding can_put
  put_outside v n = refused v (rw (outside n))

  pub put_large : (v : ℕ) (q : Bool) → q ≡ ltb v (2 ^ w) → not q ≡ true → (false ≡ can_put s at w v) × (s ≡ after_put s at w v)
  unfolding can_put
  put_large v q f n = refused v (rw (sym f ∙ not-true q n) (both_false (inside s at w)))

  pub put_inside : (v : ℕ) (q : Bool) (t : List ℕ) (p : ℕ) → not r ≡ false → q ≡ ltb v (2 ^ w) → not q ≡ false → p ≡ at → t ≡ set_field s p w v
      → (true ≡ can_put s at w v) × (t ≡ after_put s at w v)
  unfolding can_put after_put
  put_inside v q t p n f m a g =
      let c : can_put s at w v ≡ true = rw (there n) (sym f ∙ not-false q m) in
      (sym c, rw c (g ∙ ap (λ (x : ℕ). set_field s x w v) a))

-- ## Answers, where the place says whether the bits are there

pub fetched-here : (s : List ℕ) (at w v : ℕ) → w ≤ 64 → at + w ≤ length s * 8 → v ≡ field s at w → Bits v ≡ fetched s at w
fetched-here s at w v h l f = fetched-bits s at w true (in_reach (length s) at w h l) v refl f

pub fetched-gone : (s : List ℕ) (at w : ℕ) → length s * 8 < at + w → Short ≡ fetched s at w
fetched-gone s at w h = fetched-short s at w false (run_out (length s) at w h) refl

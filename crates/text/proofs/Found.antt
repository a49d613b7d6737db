-- The digits that are found are the numeral's. Assumes nothing.
use mathlib.Core.Path.{◌≡◌, refl}
use mathlib.Core.Bool.{Bool, true, false, cond}
use mathlib.Core.List.{List, []}
use native.Mathlib.Omega.{arith, by_contra}
use native.Mathlib.Nat.{pow-zero, pow-suc, pow-succ', one-le-pow, pow-le-pow_right, mul-le-mul_left, div-lt_iff_lt-mul, le-div_iff_mul-le}
use borrow.Author.Tests.{le-ltb, le-leb, lt-leb, ltb-false}
use Prim.Native.Nat.{ℕ, zero, suc, ◌-◌, ◌*◌, ◌/◌, ◌^◌, ◌≤◌, ◌<◌, min, max}
use lib.Dec.{ltb, leb}
use Rattle.text.specs.Inner.{last_digits, IsDigitCount}
use Rattle.text.specs.Digits.{more, numeral}

cond_same : {A : Type 0} (t : Bool) (a : A) → cond t a a ≡ a
cond_same true a = refl
cond_same false a = refl

-- r digits and one more hold the number: as many as asked for or as there is room for, and no more than it takes
record Right (b k least n r : ℕ) : Type 0 where
  room : r < k
  holds : n < b ^ suc r
  asked : min least k ≤ suc r
  taken : least ≤ r → 0 < r → b ^ r ≤ n

module _ (b : ℕ) (base : 1 < b) where
  -- the same of those before the last
  front : (k least n r : ℕ) → Right b (suc k) least n (suc r) → Right b k (least - 1) (n / b) r
  front k least n r h = record {
    room = omega (arith, h.room);
    holds = (div-lt_iff_lt-mul {k = b} {x = n} {y = b ^ suc r} (omega arith)).1 (rw pow-suc at h.holds);
    asked = omega (arith, h.asked);
    taken = λ l s. (le-div_iff_mul-le {k = b} {x = b ^ r} {y = n} (omega arith)).1 (rw pow-suc at (h.taken (omega arith) (omega arith)));
  }

  shown : (k least n r : ℕ) (t : Bool) → ltb 1 least ≡ t → Right b k least n (suc r) → cond t true (leb b n) ≡ true
  shown k least n r true e h = refl
  shown k least n r false e h =
      let l = ltb-false 1 least e in
      let p : b ^ suc r ≤ n = h.taken (omega arith) (omega arith) in
      let q : b * 1 ≤ b ^ suc r = rw pow-succ' (mul-le-mul_left b (one-le-pow r b (omega arith))) in
      le-leb b n (omega arith)

  right-digits : (k least n r : ℕ) → Right b k least n r → last_digits b (suc r) n ≡ numeral b k least n
  unfolding numeral
  right-digits zero least n r h = absurd (omega (arith, h.room))
  right-digits (suc zero) least n (suc r) h = absurd (omega (arith, h.room))
  right-digits (suc zero) least n zero h = rw (cond_same {A = List ℕ} (more b least n) [])
  right-digits (suc (suc k)) least n zero h =
      let s : n < 1 * b = rw (pow-suc, pow-zero) at h.holds in
      rw (le-ltb 1 least (omega (arith, h.asked)), lt-leb b n (omega arith))
  right-digits (suc (suc k)) least n (suc r) h =
      rw (shown (suc (suc k)) least n r (ltb 1 least) refl h, right-digits (suc k) (least - 1) (n / b) r (front (suc k) least n r h))

  -- no more digits than the room has where the number fits it
  within-room : (k m n r : ℕ) → m ≤ k → n < b ^ k → IsDigitCount b m n r → r ≤ k
  within-room k m n r l h f = by_contra r k (λ g. omega (arith, f.2 (omega arith), pow-le-pow_right {n = b} (omega arith) {i = k} {j = r - 1} (omega arith)))

  pub found_digits : (k least n r : ℕ) → 0 < k → n < b ^ k → IsDigitCount b (min (max least 1) k) n r → last_digits b r n ≡ numeral b k least n
  found_digits k least n zero p h f = absurd (omega (arith, f.0))
  found_digits k least n (suc r) p h f = right-digits k least n r record {
    room = within-room k (min (max least 1) k) n (suc r) (omega arith) h f;
    holds = f.1;
    asked = omega (arith, f.0);
    taken = λ l q. let e : suc r - 1 ≡ r = omega arith in rw e at (f.2 (omega arith));
  }

-- What a numeral is worth, how it begins, and how long it is. Assumes nothing.
use mathlib.Core.Path.{◌≡◌, refl, sym, ◌∙◌}
use mathlib.Core.Bool.{Bool, true, false, cond}
use mathlib.Core.List.{List, [], ◌∷◌, ◌++◌}
use native.Mathlib.Omega.{arith}
use native.Mathlib.Nat.{pow-zero, pow-suc, div-lt_iff_lt-mul, le-div_iff_mul-le, div-add-mod', mod-lt, mod-eq_of_lt, div-eq_of_lt}
use borrow.Author.Tests.{le-ltb, le-leb, lt-leb, ltb-true, ltb-false, leb-true, leb-false}
use Prim.Native.Nat.{ℕ, zero, suc, ◌+◌, ◌-◌, ◌*◌, ◌/◌, ◌%◌, ◌^◌, ◌≤◌, ◌<◌}
use lib.ListN.{length, get_or, length-append}
use lib.Dec.{ltb, leb}
use Rattle.text.specs.Digits.{hex_digit_ascii, more, numeral, value, number_spelled}

value_glyph : (d : ℕ) (t : Bool) → ltb d 10 ≡ t → d < 16 → value (cond t (48 + d) (87 + d)) ≡ d
unfolding value
value_glyph d true e h = rw (le-ltb (48 + d) 48 (omega arith), le-leb (48 + d) 57 (omega (arith, ltb-true d 10 e))) (omega arith)
value_glyph d false e h =
    let g = ltb-false d 10 e in
    rw (le-ltb (87 + d) 48 (omega arith), lt-leb (87 + d) 57 (omega arith), le-ltb (87 + d) 97 (omega arith), le-leb (87 + d) 102 (omega arith)) (omega arith)

worth-last : (b a : ℕ) (s : List ℕ) (c : ℕ) → number_spelled b a (s ++ (c ∷ [])) ≡ number_spelled b a s * b + value c
unfolding number_spelled
worth-last b a [] c = refl
worth-last b a (d ∷ s) c = worth-last b (a * b + value d) s c

neither : (t u : Bool) → cond t true u ≡ false → u ≡ false
neither true u e = cc
neither false u e = e

module _ (b : ℕ) (lo : 1 < b) (hi : b ≤ 16) where
  -- the digits before the last are worth n / b, where there are none too
  worth-front : (n : ℕ) (s : List ℕ) (m t : Bool) → cond m true (leb b n) ≡ t → number_spelled b 0 s ≡ n / b → number_spelled b 0 (cond t s []) ≡ n / b
  unfolding number_spelled
  worth-front n s m true e h = h
  worth-front n s m false e h = sym (div-eq_of_lt (leb-false b n (neither m (leb b n) e)))

  pub worth-numeral : (k least n : ℕ) → n < b ^ k → number_spelled b 0 (numeral b k least n) ≡ n
  unfolding numeral number_spelled
  worth-numeral zero least n h = let z = rw pow-zero at h in omega arith
  worth-numeral (suc k) least n h =
      let q : n / b < b ^ k = (div-lt_iff_lt-mul {k = b} {x = n} {y = b ^ k} (omega arith)).1 (rw pow-suc at h) in
      let s : List ℕ = numeral b k (least - 1) (n / b) in
      let t : Bool = more b least n in
      let f : number_spelled b 0 (cond t s []) ≡ n / b = worth-front n s (ltb 1 least) t refl (worth-numeral k (least - 1) (n / b) q) in
      let v : value (hex_digit_ascii (n % b)) ≡ n % b = value_glyph (n % b) (ltb (n % b) 10) refl (omega (arith, mod-lt n {m = b} (omega arith))) in
      worth-last b 0 (cond t s []) (hex_digit_ascii (n % b)) ∙ rw (f, v) (div-add-mod' n b)

-- ## The first digit, and how many there are

first_of : (s u : List ℕ) → 48 < get_or s 0 0 → 48 < get_or (s ++ u) 0 0
first_of [] u h = absurd (omega arith)
first_of (c ∷ s) u h = h

glyph_above : (d : ℕ) (t : Bool) → 0 < d → 48 < cond t (48 + d) (87 + d)
glyph_above d true h = omega arith
glyph_above d false h = omega arith

module _ (b : ℕ) (base : 0 < b) where
  first-front : (n : ℕ) (s : List ℕ) (t : Bool) → leb b n ≡ t → 0 < n → (0 < n / b → 48 < get_or s 0 0) → 48 < get_or (cond t s [] ++ (hex_digit_ascii (n % b) ∷ [])) 0 0
  first-front n s true e p h = first_of s (hex_digit_ascii (n % b) ∷ []) (h ((le-div_iff_mul-le {k = b} {x = 1} {y = n} base).1 (omega (arith, leb-true b n e))))
  first-front n s false e p h = glyph_above (n % b) (ltb (n % b) 10) (rw (mod-eq_of_lt (leb-false b n e)) p)

  -- a number above 0 begins with a digit above `0`
  pub first-numeral : (k n : ℕ) → 0 < n → n < b ^ k → 48 < get_or (numeral b k 0 n) 0 0
  unfolding numeral
  first-numeral zero n p h = let z = rw pow-zero at h in absurd (omega arith)
  first-numeral (suc k) n p h =
      let q : n / b < b ^ k = (div-lt_iff_lt-mul {k = b} {x = n} {y = b ^ k} base).1 (rw pow-suc at h) in
      first-front n (numeral b k 0 (n / b)) (leb b n) refl p (λ o. first-numeral k (n / b) o q)

length_front : (k c : ℕ) (s : List ℕ) (t : Bool) → length s ≤ k → length (cond t s [] ++ (c ∷ [])) ≤ suc k
length_front k c s true h = rw length-append (omega arith)
length_front k c s false h = omega arith

pub length-numeral : (b k least n : ℕ) → length (numeral b k least n) ≤ k
unfolding numeral
length-numeral b zero least n = omega arith
length-numeral b (suc k) least n = length_front k (hex_digit_ascii (n % b)) (numeral b k (least - 1) (n / b)) (more b least n) (length-numeral b k (least - 1) (n / b))

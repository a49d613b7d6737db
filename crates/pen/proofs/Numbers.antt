-- Numbers whose bits stand one behind the other, and the words and octets that they are. Assumes nothing.
use mathlib.Core.Path.{◌≡◌, sym, ap, ap₂, ◌∙◌, subst}
use Prim.Native.Nat.{ℕ, ◌+◌, ◌-◌, ◌*◌, ◌/◌, ◌%◌, ◌^◌, ◌≤◌, ◌<◌}
use native.Mathlib.Nat.{add-zero, add-mul, mul_right_comm, mul_assoc, mod-lt, mod-eq_of_lt, mul-mod_left, mul-add-mod_self_right, div-add-mod'}
use native.Mathlib.Omega.{arith}
use lib.Arith.{digits_lt}
use borrow.Author.Tests.{le-leb, lt-leb}
use lib.Pow.{high, low, pow_pos, pow-add, split, shl-shr, shr-shr, shr_lt, mod-pow-add}
use Rattle.pen.specs.declared.Words.{Words}
use Rattle.pen.specs.Words.{whole, added, whole_after, words_of, put_words}

-- ## The last bits of a number

-- what was dropped before stays dropped
pub kept : (x k y m : ℕ) → (x % m * k + y) % m ≡ (x * k + y) % m
kept x k y m =
    let q : ℕ = x / m in
    let r : ℕ = x % m in
    let e : x * k + y ≡ q * k * m + (r * k + y) =
    ap (λ (z : ℕ). z * k + y) (sym (div-add-mod' x m)) ∙ ap (λ (z : ℕ). z + y) (add-mul (q * m) r k) ∙ ap (λ (z : ℕ). z + r * k + y) (mul_right_comm q m k) ∙ omega arith in
    sym (ap (λ (z : ℕ). z % m) e ∙ mul-add-mod_self_right (q * k) m (r * k + y))

-- ## A word, shifted up

-- what leaves the last word stands in the one before it
carried : (x y p h n l : ℕ) → y * p ≡ h * 2 ^ 64 + n → (x * 2 ^ 64 + y) * p + l ≡ (x * p + h) * 2 ^ 64 + (n + l)
carried x y p h n l e =
    let f : (x * 2 ^ 64 + y) * p ≡ x * p * 2 ^ 64 + y * p = add-mul (x * 2 ^ 64) y p ∙ ap (λ (z : ℕ). z + y * p) (mul_right_comm x (2 ^ 64) p) in
    omega arith

top : (t u v w b : ℕ) → ((t * b + u) * b + v) * b + w ≡ t * (b * b * b) + ((u * b + v) * b + w)
top t u v w b =
    let e : (t * b + u) * b ≡ t * (b * b) + u * b = add-mul (t * b) u b ∙ ap (λ (z : ℕ). z + u * b) (mul_assoc t b b) in
    let f : (t * (b * b) + (u * b + v)) * b ≡ t * (b * b * b) + (u * b + v) * b = add-mul (t * (b * b)) (u * b + v) b ∙ ap (λ (z : ℕ). z + (u * b + v) * b) (mul_assoc t (b * b) b) in
    let g : (t * b + u) * b + v ≡ t * (b * b) + (u * b + v) = omega arith in
    ap (λ (z : ℕ). z * b + w) g ∙ ap (λ (z : ℕ). z + w) f ∙ omega arith

module _ (w : ℕ) (h : w < 64) where
  wide : w + (64 - w) ≡ 64
  wide = omega arith

  -- what leaves it at the top
  over : (x : ℕ) → x / 2 / 2 ^ (63 - w) ≡ x / 2 ^ (64 - w)
  over x =
      let d : 1 + (63 - w) ≡ 64 - w = omega arith in
      shr-shr x 1 (63 - w) ∙ ap (λ (z : ℕ). x / 2 ^ z) d

  shifted : (x : ℕ) → x * 2 ^ w ≡ x / 2 / 2 ^ (63 - w) * 2 ^ 64 + x * 2 ^ w % 2 ^ 64
  shifted x =
      let e : x * 2 ^ w / 2 ^ 64 ≡ x / 2 / 2 ^ (63 - w) =
      ap (λ (z : ℕ). x * 2 ^ w / 2 ^ z) (sym wide) ∙ sym (shr-shr (x * 2 ^ w) w (64 - w)) ∙ ap (λ (z : ℕ). z / 2 ^ (64 - w)) (shl-shr x w) ∙ sym (over x) in
      sym (split (x * 2 ^ w) 64) ∙ ap (λ (z : ℕ). z * 2 ^ 64 + x * 2 ^ w % 2 ^ 64) e

  over_lt : (x : ℕ) → x < 2 ^ 64 → x / 2 / 2 ^ (63 - w) < 2 ^ w
  over_lt x l = rw (over x) (shr_lt w (64 - w) (subst (λ (z : ℕ). x < 2 ^ z) (sym wide) l))

  -- there is room for w bits
  pub room : (x l : ℕ) → l < 2 ^ w → x * 2 ^ w % 2 ^ 64 + l < 2 ^ 64
  room x l f =
      let j : 64 - w + w ≡ 64 = omega arith in
      let e : x * 2 ^ w % 2 ^ 64 ≡ x % 2 ^ (64 - w) * 2 ^ w =
      ap (λ (z : ℕ). x * 2 ^ w % 2 ^ z) (sym j) ∙ mod-pow-add (x * 2 ^ w) (64 - w) w
      ∙ ap₂ (λ (y z : ℕ). y % 2 ^ (64 - w) * 2 ^ w + z) (shl-shr x w) (mul-mod_left x (2 ^ w)) ∙ add-zero (x % 2 ^ (64 - w) * 2 ^ w) in
      let all : x % 2 ^ (64 - w) * 2 ^ w + l < 2 ^ (64 - w) * 2 ^ w = digits_lt (mod-lt x (pow_pos (64 - w))) f in
      rw e (subst (λ (z : ℕ). x % 2 ^ (64 - w) * 2 ^ w + l < z) (sym (pow-add 2 (64 - w) w) ∙ ap (λ (z : ℕ). 2 ^ z) j) all)

  pub room-over : (x y : ℕ) → y < 2 ^ 64 → x * 2 ^ w % 2 ^ 64 + y / 2 / 2 ^ (63 - w) < 2 ^ 64
  room-over x y l = room x (y / 2 / 2 ^ (63 - w)) (over_lt y l)

  -- three words, shifted up, and w bits behind them
  pub shift_words : (a b c v : ℕ) → b < 2 ^ 64 → c < 2 ^ 64
      → ((a * 2 ^ w % 2 ^ 64 + b / 2 / 2 ^ (63 - w)) * 2 ^ 64 + (b * 2 ^ w % 2 ^ 64 + c / 2 / 2 ^ (63 - w))) * 2 ^ 64 + (c * 2 ^ w % 2 ^ 64 + v % 2 ^ w)
      ≡ added ((a * 2 ^ 64 + b) * 2 ^ 64 + c) w v
  unfolding added
  shift_words a b c v lb lc =
      let p : ℕ = 2 ^ w in
      let l : ℕ = v % 2 ^ w in
      let a0 : ℕ = a * p % 2 ^ 64 in
      let b0 : ℕ = b * p % 2 ^ 64 in
      let c0 : ℕ = c * p % 2 ^ 64 in
      let a1 : ℕ = a / 2 / 2 ^ (63 - w) in
      let b1 : ℕ = b / 2 / 2 ^ (63 - w) in
      let c1 : ℕ = c / 2 / 2 ^ (63 - w) in
      let r : ℕ = ((a0 + b1) * 2 ^ 64 + (b0 + c1)) * 2 ^ 64 + (c0 + l) in
      let k : ((a * 2 ^ 64 + b) * 2 ^ 64 + c) * p + l ≡ ((a * 2 ^ 64 + b) * p + c1) * 2 ^ 64 + (c0 + l) = carried (a * 2 ^ 64 + b) c p c1 c0 l (shifted c) in
      let j : (a * 2 ^ 64 + b) * p + c1 ≡ (a * p + b1) * 2 ^ 64 + (b0 + c1) = carried a b p b1 b0 c1 (shifted b) in
      let i : a * p + b1 ≡ a1 * 2 ^ 64 + (a0 + b1) = omega (arith, shifted a) in
      let e : ((a * 2 ^ 64 + b) * 2 ^ 64 + c) * p + l ≡ a1 * 2 ^ 192 + r =
      k ∙ ap (λ (z : ℕ). z * 2 ^ 64 + (c0 + l)) (j ∙ ap (λ (z : ℕ). z * 2 ^ 64 + (b0 + c1)) i) ∙ top a1 (a0 + b1) (b0 + c1) (c0 + l) (2 ^ 64) in
      let s : r < 2 ^ 192 = digits_lt (digits_lt (room-over a b lb) (room-over b c lc)) (room c l (mod-lt v (pow_pos w))) in
      sym (ap (λ (z : ℕ). z % 2 ^ 192) e ∙ mul-add-mod_self_right a1 (2 ^ 192) r ∙ mod-eq_of_lt s)

-- ## What `put` leaves

pub after-few : (x w v : ℕ) → w ≤ 64 → whole_after x w v ≡ added x w v
unfolding whole_after
after-few x w v h = rw (le-leb w 64 h)

pub after-many : (x w v : ℕ) → 64 < w → whole_after x w v ≡ x
unfolding whole_after
after-many x w v h = rw (lt-leb w 64 h)

-- a whole word behind two
pub word-added : (a b c w v : ℕ) → w ≡ 64 → b < 2 ^ 64 → c < 2 ^ 64 → v < 2 ^ 64 → (b * 2 ^ 64 + c) * 2 ^ 64 + v ≡ whole_after ((a * 2 ^ 64 + b) * 2 ^ 64 + c) w v
unfolding added
word-added a b c w v e lb lc lv =
    let r : ℕ = (b * 2 ^ 64 + c) * 2 ^ 64 + v in
    let s : r < 2 ^ 192 = digits_lt (digits_lt lb lc) lv in
    let f : ((a * 2 ^ 64 + b) * 2 ^ 64 + c) * 2 ^ 64 + v % 2 ^ 64 ≡ a * 2 ^ 192 + r = ap (λ (z : ℕ). ((a * 2 ^ 64 + b) * 2 ^ 64 + c) * 2 ^ 64 + z) (mod-eq_of_lt lv) ∙ top a b c v (2 ^ 64) in
    sym (ap (λ (z : ℕ). whole_after ((a * 2 ^ 64 + b) * 2 ^ 64 + c) z v) e ∙ after-few ((a * 2 ^ 64 + b) * 2 ^ 64 + c) 64 v (omega arith)
    ∙ ap (λ (z : ℕ). z % 2 ^ 192) f ∙ mul-add-mod_self_right a (2 ^ 192) r ∙ mod-eq_of_lt s)

-- ## Words and their number

pub whole_words : (x : ℕ) → x < 2 ^ 192 → whole (words_of x) ≡ x
unfolding words_of
whole_words x h =
    let e : x / 2 ^ 64 % 2 ^ 128 ≡ x / 2 ^ 128 % 2 ^ 64 * 2 ^ 64 + x / 2 ^ 64 % 2 ^ 64 =
    mod-pow-add (x / 2 ^ 64) 64 64 ∙ ap (λ (z : ℕ). z % 2 ^ 64 * 2 ^ 64 + x / 2 ^ 64 % 2 ^ 64) (shr-shr x 64 64) in
    ap (λ (z : ℕ). z * 2 ^ 64 + x % 2 ^ 64) (sym e) ∙ sym (mod-pow-add x 128 64) ∙ mod-eq_of_lt h

pub words_back : (w : Words) → w.a < 2 ^ 64 → w.b < 2 ^ 64 → w.c < 2 ^ 64 → w ≡ words_of (whole w)
unfolding words_of
words_back w la lb lc =
    let h : ℕ = w.a * 2 ^ 64 + w.b in
    let d : whole w / 2 ^ 64 ≡ h = high h 64 lc in
    let a : whole w / 2 ^ 128 % 2 ^ 64 ≡ w.a = ap (λ (z : ℕ). z % 2 ^ 64) (sym (shr-shr (whole w) 64 64) ∙ ap (λ (z : ℕ). z / 2 ^ 64) d ∙ high w.a 64 lb) ∙ mod-eq_of_lt la in
    let b : whole w / 2 ^ 64 % 2 ^ 64 ≡ w.b = ap (λ (z : ℕ). z % 2 ^ 64) d ∙ low w.a 64 lb in
    let c : whole w % 2 ^ 64 ≡ w.c = low h 64 lc in
    rw (a, b, c)

-- r is w after `put`
pub put_whole : (w r : Words) (n v : ℕ) → n ≤ 64 → r ≡ put_words w n v → whole r ≡ whole_after (whole w) n v
unfolding put_words added
put_whole w r n v h e =
    let l : whole_after (whole w) n v < 2 ^ 192 = subst (λ (z : ℕ). z < 2 ^ 192) (sym (after-few (whole w) n v h)) (mod-lt (whole w * 2 ^ n + v % 2 ^ n) (pow_pos 192)) in
    ap whole e ∙ whole_words (whole_after (whole w) n v) l

pub put_words_lem : (w r : Words) (n v : ℕ) → r.a < 2 ^ 64 → r.b < 2 ^ 64 → r.c < 2 ^ 64 → whole r ≡ whole_after (whole w) n v → r ≡ put_words w n v
unfolding put_words
put_words_lem w r n v la lb lc e = words_back r la lb lc ∙ ap words_of e

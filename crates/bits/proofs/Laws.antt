-- The laws of fields of bits, over every width. Assumes nothing.
use mathlib.Core.Path.{◌≡◌, refl, sym, ap, ap₂, ◌∙◌, subst}
use mathlib.Core.List.{List}
use Prim.Native.Nat.{ℕ, zero, suc, ◌+◌, ◌-◌, ◌*◌, ◌/◌, ◌%◌, ◌^◌, ◌≤◌, ◌<◌}
use native.Mathlib.Nat.{add-zero, add-suc, add_assoc, mul_assoc, pow-suc, mod-lt}
use native.Mathlib.Omega.{arith}
use native.Mathlib.Decide.{dec_lt, ℕ_discrete}
use mathlib.Core.Logic.{◌⊎◌, ⊎_elim}
use lib.ListN.{length, get_or, set, length-set}
use lib.Seq.{set_out, get_or-set_same, get_or-set_other}
use lib.Pow.{pow_pos, high, low, shr-shr, field as pow-field, mod-mod-pow}
use Rattle.bits.specs.Field.{bit, field, with_bit, set_bit, set_field}

-- ## Reading

pub bit_lt : (s : List ℕ) (i : ℕ) → bit s i < 2
unfolding bit
bit_lt s i = omega arith

pub field-zero : (s : List ℕ) (at : ℕ) → field s at 0 ≡ 0
unfolding field
field-zero s at = refl

pub field-suc : (s : List ℕ) (at w : ℕ) → field s at (suc w) ≡ field s at w * 2 + bit s (at + w)
unfolding field
field-suc s at w = refl

-- a field of one bit
pub field-one : (s : List ℕ) (at : ℕ) → field s at 1 ≡ get_or s (at / 8) 0 / 2 ^ (7 - at % 8) % 2
unfolding field bit
field-one s at = rw add-zero (omega arith)

pub field_lt : (s : List ℕ) (at w : ℕ) → field s at w < 2 ^ w
unfolding field
field_lt s at zero = omega arith
field_lt s at (suc w) = omega (arith, field_lt s at w, bit_lt s (at + w), pow-suc 2 w)

-- a field of a + b bits is its first a and then its last b
pub field-split : (s : List ℕ) (at a b : ℕ) → field s at (a + b) ≡ field s at a * 2 ^ b + field s (at + a) b
unfolding field
field-split s at a zero = rw add-zero (omega arith)
field-split s at a (suc b) =
    rw (add-suc, pow-suc, ← mul_assoc (field s at a) (2 ^ b) 2, add_assoc at a b) (omega (arith, field-split s at a b))

-- ## An octet with a bit put into it

with_high : (o k b : ℕ) → with_bit o k b / 2 ^ k ≡ o / 2 ^ k / 2 * 2 + b
unfolding with_bit
with_high o k b = high (o / 2 ^ k / 2 * 2 + b) k (mod-lt o (pow_pos k))

with_low : (o k b : ℕ) → with_bit o k b % 2 ^ k ≡ o % 2 ^ k
unfolding with_bit
with_low o k b = low (o / 2 ^ k / 2 * 2 + b) k (mod-lt o (pow_pos k))

-- the same bit
with_same : (o k b : ℕ) → b < 2 → with_bit o k b / 2 ^ k % 2 ≡ b
with_same o k b h = rw with_high (omega arith)

-- a higher bit
with_above : (o k d b : ℕ) → b < 2 → with_bit o k b / 2 ^ (k + (1 + d)) ≡ o / 2 ^ (k + (1 + d))
with_above o k d b h =
    rw (← shr-shr (with_bit o k b) k (1 + d), ← shr-shr o k (1 + d), ← shr-shr (with_bit o k b / 2 ^ k) 1 d, ← shr-shr (o / 2 ^ k) 1 d)
    (ap (λ (x : ℕ). x / 2 ^ d) (rw with_high (omega arith)))

-- a bit is one of the low part above it
bit-of-low : (n d k : ℕ) → n / 2 ^ k % 2 ≡ n % 2 ^ (d + (1 + k)) % 2 ^ (1 + k) / 2 ^ k
bit-of-low n d k = rw mod-mod-pow (sym (pow-field n 1 k))

-- a lower bit
with_below : (o k d b : ℕ) → with_bit o (d + (1 + k)) b / 2 ^ k % 2 ≡ o / 2 ^ k % 2
with_below o k d b =
    bit-of-low (with_bit o (d + (1 + k)) b) d k
    ∙ ap (λ (x : ℕ). x % 2 ^ (1 + k) / 2 ^ k) (with_low o (d + (1 + k)) b)
    ∙ sym (bit-of-low o d k)

-- any other bit
with_other : (o k j b : ℕ) → b < 2 → (j ≡ k → ⊥) → with_bit o k b / 2 ^ j % 2 ≡ o / 2 ^ j % 2
with_other o k j b h n = go (dec_lt j k)
  where
    go : Dec (j < k) → with_bit o k b / 2 ^ j % 2 ≡ o / 2 ^ j % 2
    go (yes l) =
        let e : k ≡ (k - (1 + j)) + (1 + j) = omega arith in
        subst (λ (x : ℕ). with_bit o x b / 2 ^ j % 2 ≡ o / 2 ^ j % 2) (sym e) (with_below o j (k - (1 + j)) b)
    go (no l) =
        let e : j ≡ k + (1 + (j - (k + 1))) = omega arith in
        subst (λ (x : ℕ). with_bit o k b / 2 ^ x % 2 ≡ o / 2 ^ x % 2) (sym e) (ap (λ (x : ℕ). x % 2) (with_above o k (j - (k + 1)) b h))

-- ## A list with a bit put into it

pub length-set_bit : (s : List ℕ) (i b : ℕ) → length (set_bit s i b) ≡ length s
unfolding set_bit
length-set_bit s i b = simp length-set

pub bit-set-same : (s : List ℕ) (i b : ℕ) → b < 2 → i < length s * 8 → bit (set_bit s i b) i ≡ b
unfolding bit set_bit
bit-set-same s i b h l =
    let r : i / 8 < length s = omega arith in
    rw (get_or-set_same s (i / 8) (with_bit (get_or s (i / 8) 0) (7 - i % 8) b) 0 r) (with_same (get_or s (i / 8) 0) (7 - i % 8) b h)

pub bit-set-other : (s : List ℕ) (i j b : ℕ) → b < 2 → (j ≡ i → ⊥) → bit (set_bit s i b) j ≡ bit s j
unfolding bit set_bit
bit-set-other s i j b h n = go (ℕ_discrete (j / 8) (i / 8)) (dec_lt (i / 8) (length s))
  where
    o : ℕ
    o = with_bit (get_or s (i / 8) 0) (7 - i % 8) b

    go : Dec (j / 8 ≡ i / 8) → Dec (i / 8 < length s) → get_or (set s (i / 8) o) (j / 8) 0 / 2 ^ (7 - j % 8) % 2 ≡ get_or s (j / 8) 0 / 2 ^ (7 - j % 8) % 2
    go (no d) l = rw (get_or-set_other s (i / 8) (j / 8) o 0 d)
    go (yes d) (yes l) =
        let m : 7 - j % 8 ≡ 7 - i % 8 → ⊥ = λ e. n (omega arith) in
        rw (d, get_or-set_same s (i / 8) o 0 l) (with_other (get_or s (i / 8) 0) (7 - i % 8) (7 - j % 8) b h m)
    go (yes d) (no l) = rw (set_out s (i / 8) o (omega arith))

-- ## Fields

-- two lists that agree in the bits of a field have the same field
pub field_cong : (s t : List ℕ) (at w : ℕ) → ((k : ℕ) → k < w → bit s (at + k) ≡ bit t (at + k)) → field s at w ≡ field t at w
unfolding field
field_cong s t at zero f = refl
field_cong s t at (suc w) f = ap₂ (λ (x y : ℕ). x * 2 + y) (field_cong s t at w (λ k h. f k (omega arith))) (f w (omega arith))

pub length-set_field : (s : List ℕ) (at w v : ℕ) → length (set_field s at w v) ≡ length s
unfolding set_field
length-set_field s at zero v = refl
length-set_field s at (suc w) v = length-set_bit (set_field s at w (v / 2)) (at + w) (v % 2) ∙ length-set_field s at w (v / 2)

-- putting touches no bit outside
pub bit-set_field-other : (s : List ℕ) (at w v j : ℕ) → ((k : ℕ) → k < w → j ≡ at + k → ⊥) → bit (set_field s at w v) j ≡ bit s j
unfolding set_field
bit-set_field-other s at zero v j n = refl
bit-set_field-other s at (suc w) v j n =
    bit-set-other (set_field s at w (v / 2)) (at + w) j (v % 2) (omega arith) (n w (omega arith))
    ∙ bit-set_field-other s at w (v / 2) j (λ k h. n k (omega arith))

-- putting touches no other field
pub field-set-other : (s : List ℕ) (at w v p n : ℕ) → ((p + n ≤ at) ⊎ (at + w ≤ p)) → field (set_field s at w v) p n ≡ field s p n
field-set-other s at w v p n d =
    field_cong (set_field s at w v) s p n
    (λ k h. bit-set_field-other s at w v (p + k) (λ j l e. ⊎_elim {C = ⊥} (λ x. omega arith) (λ x. omega arith) d))

-- what was put is read back
pub field-set-same : (s : List ℕ) (at w v : ℕ) → v < 2 ^ w → at + w ≤ length s * 8 → field (set_field s at w v) at w ≡ v
unfolding field set_field
field-set-same s at zero v h l = omega arith
field-set-same s at (suc w) v h l =
    let t : List ℕ = set_field s at w (v / 2) in
    let e1 : field (set_bit t (at + w) (v % 2)) at w ≡ field t at w =
    field_cong (set_bit t (at + w) (v % 2)) t at w (λ k q. bit-set-other t (at + w) (at + k) (v % 2) (omega arith) (λ e. omega arith)) in
    let e2 : field t at w ≡ v / 2 = field-set-same s at w (v / 2) (omega (arith, pow-suc 2 w)) (omega arith) in
    let e3 : bit (set_bit t (at + w) (v % 2)) (at + w) ≡ v % 2 = bit-set-same t (at + w) (v % 2) (omega arith) (omega (arith, length-set_field s at w (v / 2))) in
    omega arith

-- The laws of fields that are taken from words. Assumes nothing.
use mathlib.Core.Path.{◌≡◌, refl, sym, ap, ap₂, ◌∙◌, subst}
use mathlib.Core.List.{List, [], ◌∷◌}
use Prim.Native.Nat.{ℕ, zero, suc, ◌+◌, ◌-◌, ◌*◌, ◌/◌, ◌%◌, ◌^◌, ◌≤◌, ◌<◌}
use native.Mathlib.Nat.{add-zero, mod-lt, div-eq_of_lt}
use native.Mathlib.Omega.{arith}
use lib.Arith.{digits_lt}
use lib.ListN.{length, get_or, get_or-eq_default}
use lib.Pow.{pow_pos, pow-add, high, low, shl-shr, shr-shr, shr_lt, mod-pow-add}
use Rattle.bits.specs.Field.{bit, field}
use Rattle.bits.proofs.Laws.{field_lt, field-split}
use Rattle.bits.proofs.Octets.{cut}
use borrow.Author.Tests.{eq-eqb, ne_eqb}
use Rattle.words.specs.Inner.{Part, Twenty}
use Rattle.words.specs.Array.{words_of, window_of}

zero-shr : (k : ℕ) → 0 / 2 ^ k ≡ 0
zero-shr k = div-eq_of_lt (pow_pos k)

-- behind the octets every bit is 0
pub behind : (s : List ℕ) (at w : ℕ) → length s * 8 ≤ at → field s at w ≡ 0
unfolding field bit
behind s at zero h = refl
behind s at (suc w) h =
    let e : get_or s ((at + w) / 8) 0 ≡ 0 = get_or-eq_default s 0 (omega arith) in
    rw (behind s at w h, e) (omega (arith, zero-shr (7 - (at + w) % 8)))

-- the last w bits of a field
field-low : (s : List ℕ) (b p w : ℕ) → field s b (p + w) % 2 ^ w ≡ field s (b + p) w
field-low s b p w = ap (λ (x : ℕ). x % 2 ^ w) (field-split s b p w) ∙ low (field s b p) w (field_lt s (b + p) w)

-- what is shifted up in a number of j + k bits keeps its j low bits
shl-mod : (v j k : ℕ) → v * 2 ^ k % 2 ^ (j + k) ≡ v % 2 ^ j * 2 ^ k
shl-mod v j k =
    let z : v * 2 ^ k % 2 ^ k ≡ 0 = ap (λ (x : ℕ). x % 2 ^ k) (sym (add-zero (v * 2 ^ k))) ∙ low v k (pow_pos k) in
    mod-pow-add (v * 2 ^ k) j k ∙ ap₂ (λ (x y : ℕ). x % 2 ^ j * 2 ^ k + y) (shl-shr v k) z ∙ add-zero (v % 2 ^ j * 2 ^ k)

-- the first k bits of a window
upper : (s : List ℕ) (p k v : ℕ) → k ≤ 64 → v ≡ field s p 64 → v / 2 ^ (64 - k) ≡ field s p k
upper s p k v h e =
    let g : 64 ≡ k + (64 - k) = omega arith in
    ap (λ (x : ℕ). x / 2 ^ (64 - k)) (e ∙ ap (field s p) g ∙ field-split s p k (64 - k)) ∙ high (field s p k) (64 - k) (field_lt s (p + k) (64 - k))

-- what is left of a window that is shifted up by k
lower : (s : List ℕ) (p k v : ℕ) → k ≤ 64 → v ≡ field s p 64 → v * 2 ^ k % 2 ^ 64 ≡ field s (p + k) (64 - k) * 2 ^ k
lower s p k v h e =
    let j : 64 ≡ 64 - k + k = omega arith in
    let g : 64 ≡ k + (64 - k) = omega arith in
    ap (λ (x : ℕ). v * 2 ^ k % 2 ^ x) j
    ∙ shl-mod v (64 - k) k
    ∙ ap (λ (x : ℕ). x * 2 ^ k) (ap (λ (x : ℕ). x % 2 ^ (64 - k)) (e ∙ ap (field s p) g) ∙ field-low s p k (64 - k))

-- a window and its next
pub spans : (s : List ℕ) (p k x y : ℕ) → k < 64 → x ≡ field s p 64 → y ≡ field s (p + 64) 64
    → x * 2 ^ k % 2 ^ 64 + y / 2 / 2 ^ (63 - k) ≡ field s (p + k) 64
spans s p k x y h e f =
    let a : 64 - k + k ≡ 64 = omega arith in
    let b : p + k + (64 - k) ≡ p + 64 = omega arith in
    let d : 1 + (63 - k) ≡ 64 - k = omega arith in
    ap₂ ◌+◌ (lower s p k x (omega arith) e)
    (shr-shr y 1 (63 - k) ∙ ap (λ (z : ℕ). y / 2 ^ z) d ∙ upper s (p + 64) k y (omega arith) f ∙ ap (λ (z : ℕ). field s z k) (sym b))
    ∙ sym (field-split s (p + k) (64 - k) k)
    ∙ ap (field s (p + k)) a

pub spans_lt : (k x y : ℕ) → k < 64 → y < 2 ^ 64 → x * 2 ^ k % 2 ^ 64 + y / 2 / 2 ^ (63 - k) < 2 ^ 64
spans_lt k x y h l =
    let j : 64 - k + k ≡ 64 = omega arith in
    let d : 1 + (63 - k) ≡ 64 - k = omega arith in
    let i : k + (64 - k) ≡ 64 = omega arith in
    let u : x * 2 ^ k % 2 ^ 64 ≡ x % 2 ^ (64 - k) * 2 ^ k = ap (λ (z : ℕ). x * 2 ^ k % 2 ^ z) (sym j) ∙ shl-mod x (64 - k) k in
    let v : y / 2 / 2 ^ (63 - k) ≡ y / 2 ^ (64 - k) = shr-shr y 1 (63 - k) ∙ ap (λ (z : ℕ). y / 2 ^ z) d in
    let m : y / 2 ^ (64 - k) < 2 ^ k = shr_lt k (64 - k) (subst (λ (z : ℕ). y < 2 ^ z) (sym i) l) in
    let all : x % 2 ^ (64 - k) * 2 ^ k + y / 2 ^ (64 - k) < 2 ^ (64 - k) * 2 ^ k = digits_lt (mod-lt x (pow_pos (64 - k))) m in
    rw (u, v) (subst (λ (z : ℕ). x % 2 ^ (64 - k) * 2 ^ k + y / 2 ^ (64 - k) < z) (sym (pow-add 2 (64 - k) k) ∙ ap (λ (z : ℕ). 2 ^ z) j) all)

-- a word whose end is behind the octets' last 64 bits
pub last : (s : List ℕ) (p q k v : ℕ) → k ≤ 64 → p + k ≡ q → length s * 8 ≤ p + 64 → v ≡ field s p 64 → v * 2 ^ k % 2 ^ 64 ≡ field s q 64
last s p q k v h e n f =
    let a : 64 - k + k ≡ 64 = omega arith in
    let z : field s (p + k + (64 - k)) k ≡ 0 = behind s (p + k + (64 - k)) k (omega arith) in
    lower s p k v h f
    ∙ sym (add-zero (field s (p + k) (64 - k) * 2 ^ k))
    ∙ ap (λ (x : ℕ). field s (p + k) (64 - k) * 2 ^ k + x) (sym z)
    ∙ sym (field-split s (p + k) (64 - k) k)
    ∙ ap₂ (field s) e a

-- a part of a window
pub part_cut : (x k w : ℕ) → k + w ≤ 64 → Part x k w (x * 2 ^ k % 2 ^ 64 / 2 ^ (64 - w))
part_cut x k w h s p e = cut s p 64 (p + k) w k x (omega arith) (omega arith) (omega arith) (omega arith) e

-- and its first
pub part-first : (x w r : ℕ) → Part x 0 w r → (s : List ℕ) (p : ℕ) → x ≡ field s p 64 → r ≡ field s p w
part-first x w r h s p e = h s p e ∙ ap (λ (z : ℕ). field s z w) (add-zero p)

-- ## Words in an array

pub other-words : (s : List ℕ) → (length s ≡ 20 → ⊥) → 0 ∷ 0 ∷ 0 ∷ 0 ∷ 0 ∷ [] ≡ words_of s
unfolding words_of
other-words s n = rw (ne_eqb (length s) 20 n) refl

-- twenty octets are two words and a half
module _ (s : List ℕ) where
  half : (c : ℕ) → length s ≡ 20 → c ≡ field s 128 32 → c * 4294967296 ≡ field s 128 64
  half c l g = sym (field-split s 128 32 32 ∙ ap₂ (λ (x y : ℕ). x * 4294967296 + y) (sym g) (behind s 160 32 (omega arith)) ∙ add-zero (c * 4294967296))

  pub twenty-words : (a b c : ℕ) → length s ≡ 20 → a ≡ field s 0 64 → b ≡ field s 64 64 → c ≡ field s 128 32 → a ∷ b ∷ c * 4294967296 ∷ 0 ∷ 0 ∷ [] ≡ words_of s
  unfolding words_of
  twenty-words a b c l e f g = rw (eq-eqb (length s) 20 l, e, f, half c l g) refl

  pub words_are : {w : List ℕ} → w ≡ words_of s → length s ≡ 20 → Twenty w s
  unfolding words_of
  words_are {w} e l = record { long = l; each = λ k h. ap (λ (v : List ℕ). get_or v k 0) (rw (eq-eqb (length s) 20 l) at e) ∙ go k h }
    where
      go : (k : ℕ) → k < 5 → get_or (field s 0 64 ∷ field s 64 64 ∷ field s 128 64 ∷ 0 ∷ 0 ∷ []) k 0 ≡ field s (k * 64) 64
      go zero h = refl
      go (suc zero) h = refl
      go (suc (suc zero)) h = refl
      go (suc (suc (suc zero))) h = sym (behind s 192 64 (omega arith))
      go (suc (suc (suc (suc zero)))) h = sym (behind s 256 64 (omega arith))
      go (suc (suc (suc (suc (suc k))))) h = absurd (omega arith)

-- a window of them
pub seen : {w : List ℕ} {p r : ℕ} → r ≡ window_of w p → p < 256 → (s : List ℕ) → Twenty w s → r ≡ field s p 64
unfolding window_of
seen {w} {p} e h s t =
    let i : ℕ = p / 64 % 4 in
    let n : (i + 1) * 64 ≡ i * 64 + 64 = omega arith in
    let q : i * 64 + p % 64 ≡ p = omega arith in
    e ∙ spans s (i * 64) (p % 64) (get_or w i 0) (get_or w (i + 1) 0) (omega arith) (t.each i (omega arith)) (t.each (i + 1) (omega arith) ∙ ap (λ (z : ℕ). field s z 64) n)
    ∙ ap (λ (z : ℕ). field s z 64) q

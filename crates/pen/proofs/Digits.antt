-- The octets of a number, and octets of padding. Assumes nothing.
use mathlib.Core.Path.{◌≡◌, refl, sym, ap, ap₂, ◌∙◌}
use mathlib.Core.List.{List, [], ◌∷◌, ◌++◌, append_assoc, append-nil}
use mathlib.Core.Logic.{inr}
use Prim.Native.Nat.{ℕ, zero, suc, ◌+◌, ◌-◌, ◌*◌, ◌/◌, ◌%◌, ◌^◌, ◌≤◌, ◌<◌}
use native.Mathlib.Decide.{dec_lt}
use native.Mathlib.Nat.{add-mul, add_assoc, mod-one, mul-add-div_right, mul-add-mod_self_right, add-zero, add-suc, mod-lt, mod-eq_of_lt, div-one, mul_assoc}
use native.Mathlib.Omega.{arith}
use lib.ListN.{length, get_or, set, drop, replicate, length-append}
use lib.Seq.{sets, sets-eq, set-get_or, set_at, get_or_at, drop-length}
use lib.Pow.{pow_pos, pow-add, split, high, low, shr-shr, mod-pow-add, mod-mod-pow, field as pow-field}
use Rattle.bits.specs.Field.{bit, field, with_bit, set_bit, set_field}
use Rattle.bits.proofs.Laws.{bit_lt, field-zero, field-split, field-one, field-set-other}
use Rattle.bits.proofs.Octets.{merge, put_step, set_field-split, set_field-mod}
use Rattle.csn1.specs.Format.{num_bits, pad_bit, put_bits}
use Rattle.csn1.proofs.Holding.{put_num}
use Rattle.csn1.proofs.Putting.{padding_bit}
use borrow.Author.Tests.{le-leb, lt-leb}
use Rattle.pen.specs.declared.Words.{Words}
use Rattle.pen.specs.Words.{whole, added, whole_after, stored_in}
use Rattle.pen.specs.Inner.{digits, pads}
use Rattle.pen.proofs.Numbers.{kept, after-few}

-- ## The octets of a number

pub length_digits : (n x : ℕ) → length (digits n x) ≡ n
unfolding digits
length_digits zero x = refl
length_digits (suc n) x = length-append (digits n (x / 256)) (x % 256 ∷ []) ∙ omega (arith, length_digits n (x / 256))

-- the first m and then the last k
pub digits-split : (m k x : ℕ) → digits (m + k) x ≡ digits m (x / 2 ^ (k * 8)) ++ digits k x
unfolding digits
digits-split m zero x = ap₂ digits (add-zero m) (sym (div-one x)) ∙ sym (append-nil (digits m (x / 2 ^ (zero * 8))))
digits-split m (suc k) x =
    let e : 8 + k * 8 ≡ suc k * 8 = omega arith in
    let d : x / 256 / 2 ^ (k * 8) ≡ x / 2 ^ (suc k * 8) = shr-shr x 8 (k * 8) ∙ ap (λ (z : ℕ). x / 2 ^ z) e in
    ap (λ (z : ℕ). digits z x) (add-suc m k)
    ∙ ap (λ (l : List ℕ). l ++ (x % 256 ∷ [])) (digits-split m k (x / 256) ∙ ap (λ (z : ℕ). digits m z ++ digits k (x / 256)) d)
    ∙ append_assoc (digits m (x / 2 ^ (suc k * 8))) (digits k (x / 256)) (x % 256 ∷ [])

-- no others are looked at
pub digits_mod : (n x j : ℕ) → digits n (x % 2 ^ (j + n * 8)) ≡ digits n x
unfolding digits
digits_mod zero x j = refl
digits_mod (suc n) x j =
    let e : j + suc n * 8 ≡ j + n * 8 + 8 = omega arith in
    let d : x % 2 ^ (j + suc n * 8) / 256 ≡ x / 256 % 2 ^ (j + n * 8) = ap (λ (z : ℕ). x % 2 ^ z / 256) e ∙ pow-field x (j + n * 8) 8 in
    let m : x % 2 ^ (j + suc n * 8) % 256 ≡ x % 256 = ap (λ (z : ℕ). x % 2 ^ z % 256) e ∙ mod-mod-pow x (j + n * 8) 8 in
    ap₂ (λ (y z : ℕ). digits n y ++ (z ∷ [])) d m ∙ ap (λ (l : List ℕ). l ++ (x % 256 ∷ [])) (digits_mod n (x / 256) j)

-- ## Octets that are set one behind the other

sets_append : (l : List ℕ) (i : ℕ) (a b : List ℕ) → sets l i (a ++ b) ≡ sets (sets l i a) (i + length a) b
sets_append l i [] b = ap (λ (k : ℕ). sets l k b) (sym (add-zero i))
sets_append l i (x ∷ a) b = sets_append (set l i x) (suc i) a b ∙ ap (λ (k : ℕ). sets (sets l i (x ∷ a)) k b) (omega arith)

-- the first m octets of a number from i on, then its last k
pub sets_digits : (s : List ℕ) (i m k j x y : ℕ) → y ≡ x / 2 ^ (k * 8) → j ≡ i + m → sets (sets s i (digits m y)) j (digits k x) ≡ sets s i (digits (m + k) x)
sets_digits s i m k j x y e f =
    ap₂ (λ (a b : ℕ). sets (sets s i (digits m a)) b (digits k x)) e (f ∙ ap (λ (z : ℕ). i + z) (sym (length_digits m (x / 2 ^ (k * 8)))))
    ∙ sym (sets_append s i (digits m (x / 2 ^ (k * 8))) (digits k x))
    ∙ ap (sets s i) (sym (digits-split m k x))

-- d is s after the first were set, and e after the last
pub set_twice : (s d e : List ℕ) (i m k j x y : ℕ) → d ≡ sets s i (digits m y) → e ≡ sets d j (digits k x) → y ≡ x / 2 ^ (k * 8) → j ≡ i + m → e ≡ sets s i (digits (m + k) x)
set_twice s d e i m k j x y p q f g = q ∙ ap (λ (t : List ℕ). sets t j (digits k x)) p ∙ sets_digits s i m k j x y f g

-- all octets
pub sets_all : (s : List ℕ) (n x : ℕ) → length s ≡ n → sets s 0 (digits n x) ≡ digits n x
sets_all s n x e =
    let l = length_digits n x in
    let k : 0 + length (digits n x) ≡ length s = omega arith in
    sets-eq (digits n x) s 0 (omega arith)
    ∙ ap (λ (z : ℕ). digits n x ++ drop z s) k
    ∙ ap (λ (r : List ℕ). digits n x ++ r) (drop-length s)
    ∙ append-nil (digits n x)

-- up to eight of a word that is the last
pub digits-word : (n h l : ℕ) → n ≤ 8 → l < 2 ^ 64 → digits n l ≡ digits n (h * 2 ^ 64 + l)
digits-word n h l f g =
    let e : 64 - n * 8 + n * 8 ≡ 64 = omega arith in
    sym (ap (digits n) (low h 64 g)) ∙ ap (λ (z : ℕ). digits n ((h * 2 ^ 64 + l) % 2 ^ z)) (sym e) ∙ digits_mod n (h * 2 ^ 64 + l) (64 - n * 8)

-- the octets of all that is before the last word, and then that word's
pub spread-word : (s d e : List ℕ) (m h l : ℕ) → l < 2 ^ 64 → d ≡ sets s 0 (digits m h) → e ≡ sets d m (digits 8 l) → e ≡ sets s 0 (digits (m + 8) (h * 2 ^ 64 + l))
spread-word s d e m h l f p q =
    set_twice s d e 0 m 8 m (h * 2 ^ 64 + l) h p (q ∙ ap (sets d m) (digits-word 8 h l (omega arith) f)) (sym (high h 64 f)) (omega arith)

-- ## What stands in octets is put there again

with_own : (o k : ℕ) → with_bit o k (o / 2 ^ k % 2) ≡ o
unfolding with_bit
with_own o k =
    let q : ℕ = o / 2 ^ k in
    let e : q / 2 * 2 + q % 2 ≡ q = omega arith in
    ap (λ (z : ℕ). z * 2 ^ k + o % 2 ^ k) e ∙ split o k

bit-back : (s : List ℕ) (i : ℕ) → set_bit s i (bit s i) ≡ s
unfolding bit set_bit
bit-back s i = ap (set s (i / 8)) (with_own (get_or s (i / 8) 0) (7 - i % 8)) ∙ set-get_or s (i / 8) 0

field_back : (s : List ℕ) (at w : ℕ) → set_field s at w (field s at w) ≡ s
unfolding field set_field
field_back s at zero = refl
field_back s at (suc w) =
    let f : ℕ = field s at w in
    let b : ℕ = bit s (at + w) in
    let l : b < 2 = bit_lt s (at + w) in
    let d : (f * 2 + b) / 2 ≡ f = omega arith in
    let m : (f * 2 + b) % 2 ≡ b = omega arith in
    ap₂ (λ (x y : ℕ). set_bit (set_field s at w x) (at + w) y) d m ∙ ap (λ (t : List ℕ). set_bit t (at + w) b) (field_back s at w) ∙ bit-back s (at + w)

-- ## Padding

-- each octet of padding is 2B hex
first_bit : (x j : ℕ) → j < 8 → (x * 256 + 43) / 2 ^ j % 2 ≡ 43 / 2 ^ j % 2
first_bit x j h =
    let e : 7 - j + 1 + j ≡ 8 = omega arith in
    let f : 256 ≡ 2 ^ (7 - j) * 2 * 2 ^ j = sym (ap (λ (z : ℕ). z * 2 ^ j) (sym (pow-add 2 (7 - j) 1)) ∙ sym (pow-add 2 (7 - j + 1) j) ∙ ap (λ (z : ℕ). 2 ^ z) e) in
    let g : x * 256 ≡ x * 2 ^ (7 - j) * 2 * 2 ^ j = ap (λ (z : ℕ). x * z) f ∙ sym (mul_assoc x (2 ^ (7 - j) * 2) (2 ^ j)) ∙ ap (λ (z : ℕ). z * 2 ^ j) (sym (mul_assoc x (2 ^ (7 - j)) 2)) in
    ap (λ (z : ℕ). (z + 43) / 2 ^ j % 2) g
    ∙ ap (λ (z : ℕ). z % 2) (mul-add-div_right (pow_pos j) (x * 2 ^ (7 - j) * 2) 43)
    ∙ mul-add-mod_self_right (x * 2 ^ (7 - j)) 2 (43 / 2 ^ j)

pads-bit : (n j : ℕ) → j < n * 8 → pads n / 2 ^ j % 2 ≡ 43 / 2 ^ (j % 8) % 2
unfolding pads
pads-bit zero j h = absurd (omega arith)
pads-bit (suc n) j h = go (dec_lt j 8) (λ l. pads-bit n (j - 8) (omega arith))
  where
    go : Dec (j < 8) → (8 ≤ j → pads n / 2 ^ (j - 8) % 2 ≡ 43 / 2 ^ ((j - 8) % 8) % 2) → pads (suc n) / 2 ^ j % 2 ≡ 43 / 2 ^ (j % 8) % 2
    go (yes l) f = first_bit (pads n) j l ∙ ap (λ (z : ℕ). 43 / 2 ^ z % 2) (sym (mod-eq_of_lt l))
    go (no l) f =
        let i : ℕ = j - 8 in
        let e : 8 + i ≡ j = omega arith in
        let d : pads (suc n) / 2 ^ 8 ≡ pads n = omega arith in
        let m : i % 8 ≡ j % 8 = omega arith in
        ap (λ (z : ℕ). pads (suc n) / 2 ^ z % 2) (sym e) ∙ ap (λ (z : ℕ). z % 2) (sym (shr-shr (pads (suc n)) 8 i)) ∙ ap (λ (z : ℕ). z / 2 ^ i % 2) d
        ∙ f (omega arith) ∙ ap (λ (z : ℕ). 43 / 2 ^ z % 2) m

one_field : (n p : ℕ) → p < n * 8 → field (replicate n 43) p 1 ≡ 43 / 2 ^ (7 - p % 8) % 2
unfolding bit pad_bit
one_field n p f = field-one (replicate n 43) p ∙ padding_bit n p f

-- the bits of padding before the end of an octet
pad_field : (n at j m : ℕ) → j ≤ 192 → at + j ≡ m * 8 → m ≤ n → field (replicate n 43) at j ≡ pads 24 % 2 ^ j
pad_field n at zero m h e l = field-zero (replicate n 43) at ∙ sym (mod-one (pads 24))
pad_field n at (suc j) m h e l =
    let k : suc j ≡ 1 + j = omega arith in
    let q : 7 - at % 8 ≡ j % 8 = omega arith in
    let b : field (replicate n 43) at 1 ≡ pads 24 / 2 ^ j % 2 = one_field n at (omega arith) ∙ ap (λ (z : ℕ). 43 / 2 ^ z % 2) q ∙ sym (pads-bit 24 j (omega arith)) in
    ap (field (replicate n 43) at) k ∙ field-split (replicate n 43) at 1 j
    ∙ ap₂ (λ (x y : ℕ). x * 2 ^ j + y) b (pad_field n (at + 1) j m (omega arith) (omega arith) l)
    ∙ sym (ap (λ (z : ℕ). pads 24 % 2 ^ z) k ∙ mod-pow-add (pads 24) 1 j)

-- ## The form over octets of padding

octet-set : (p t : List ℕ) (m x : ℕ) → length p ≡ m → set_field (p ++ 43 ∷ t) (m * 8) 8 x ≡ p ++ x % 256 ∷ t
unfolding set_field merge
octet-set p t m x e =
    let s : List ℕ = p ++ 43 ∷ t in
    let l : length s ≡ m + suc (length t) = length-append p (43 ∷ t) ∙ ap (λ (z : ℕ). z + suc (length t)) e in
    let o : get_or s m 0 ≡ 43 = get_or_at p 43 t 0 m e in
    let y : x % 256 ≡ merge (get_or s m 0) 0 8 (x / 2 ^ (8 - 0 - 8) % (1 * 2 ^ 8 % 2 ^ 64)) = rw o (omega arith) in
    sym (put_step s s (m * 8) 8 x 0 8 m 0 (x % 256) (omega arith) (omega arith) refl (omega arith) (omega arith) (omega arith) y ∙ ap (set_field s (m * 8) 8) (div-one x))
    ∙ set_at p 43 t (x % 256) m e

all_digits : (n m x : ℕ) → m ≤ n → set_field (replicate n 43) 0 (m * 8) x ≡ digits m x ++ replicate (n - m) 43
unfolding set_field digits
all_digits n zero x h =
    let e : n ≡ n - 0 = omega arith in
    ap (λ (z : ℕ). replicate z 43) e
all_digits n (suc m) x h =
    let r : ℕ = n - suc m in
    let k : n - m ≡ suc r = omega arith in
    let e : suc m * 8 ≡ m * 8 + 8 = omega arith in
    let f : 0 + m * 8 ≡ m * 8 = omega arith in
    let i : set_field (replicate n 43) 0 (m * 8) (x / 2 ^ 8) ≡ digits m (x / 256) ++ 43 ∷ replicate r 43 =
    all_digits n m (x / 256) (omega arith) ∙ ap (λ (z : ℕ). digits m (x / 256) ++ replicate z 43) k in
    ap (λ (z : ℕ). set_field (replicate n 43) 0 z x) e ∙ set_field-split (replicate n 43) 0 (m * 8) 8 x
    ∙ ap₂ (λ (t : List ℕ) (z : ℕ). set_field t z 8 x) i f
    ∙ octet-set (digits m (x / 256)) (replicate r 43) m x (length_digits m (x / 256))
    ∙ sym (append_assoc (digits m (x / 256)) (x % 256 ∷ []) (replicate r 43))

-- bits of a number from the start on, and the padding behind them as it was
pub form-digits : (n used k x : ℕ) → n ≤ 24 → used + k ≡ n * 8 → put_bits (replicate n 43) 0 (num_bits used x) ≡ digits n (x * 2 ^ k + pads 24 % 2 ^ k)
form-digits n used k x h e =
    let s : List ℕ = replicate n 43 in
    let p : ℕ = pads 24 % 2 ^ k in
    let t : List ℕ = set_field s 0 used x in
    let g : ℕ = x * 2 ^ k + p in
    let z : 0 + used ≡ used = omega arith in
    let w : n - n ≡ 0 = omega arith in
    let a : field t used k ≡ p = field-set-other s 0 used x used k (inr (omega arith)) ∙ pad_field n used k n (omega arith) e (omega arith) in
    let b : set_field s 0 (used + k) g ≡ set_field t used k p =
    set_field-split s 0 used k g ∙ ap₂ (λ (y v : ℕ). set_field (set_field s 0 used y) v k g) (high x k (mod-lt (pads 24) (pow_pos k))) z
    ∙ set_field-mod t used k g ∙ ap (set_field t used k) (low x k (mod-lt (pads 24) (pow_pos k))) in
    put_num s 0 used x ∙ sym (field_back t used k) ∙ ap (set_field t used k) a ∙ sym b ∙ ap (λ (y : ℕ). set_field s 0 y g) e ∙ all_digits n n g (omega arith)
    ∙ ap (λ (y : ℕ). digits n g ++ replicate y 43) w ∙ append-nil (digits n g)

-- ## Padding behind what is there

abbrev eight-octets : ℕ
eight-octets = 3110627432037296939

module _ (j : ℕ) (h : j ≤ 64) where
  few-pads : eight-octets % 2 ^ j ≡ pads 24 % 2 ^ j
  unfolding pads
  few-pads =
      let e : 64 - j + j ≡ 64 = omega arith in
      ap (λ (z : ℕ). pads 24 % 2 ^ z % 2 ^ j) (sym e) ∙ mod-mod-pow (pads 24) (64 - j) j

  more-pads : eight-octets % 2 ^ j * 2 ^ 64 + eight-octets ≡ pads 24 % 2 ^ (j + 64)
  unfolding pads
  more-pads =
      let e : 64 - j + j ≡ 64 = omega arith in
      let f : eight-octets % 2 ^ j ≡ pads 16 % 2 ^ j = ap (λ (z : ℕ). pads 16 % 2 ^ z % 2 ^ j) (sym e) ∙ mod-mod-pow (pads 16) (64 - j) j in
      ap (λ (z : ℕ). z * 2 ^ 64 + eight-octets) f ∙ sym (mod-pow-add (pads 24) j 64)

  most-pads : (eight-octets % 2 ^ j * 2 ^ 64 + eight-octets) * 2 ^ 64 + eight-octets ≡ pads 24 % 2 ^ (j + 64 + 64)
  unfolding pads
  most-pads = ap (λ (z : ℕ). z * 2 ^ 64 + eight-octets) (sym (mod-pow-add (pads 16) j 64)) ∙ sym (mod-pow-add (pads 24) (j + 64) 64)

-- eight octets of padding more
word_more : (x j q y : ℕ) → y ≡ (x * 2 ^ j + q) % 2 ^ 192 → whole_after y 64 eight-octets ≡ (x * 2 ^ (j + 64) + (q * 2 ^ 64 + eight-octets)) % 2 ^ 192
unfolding added
word_more x j q y e =
    let f : (x * 2 ^ j + q) * 2 ^ 64 + eight-octets ≡ x * 2 ^ (j + 64) + (q * 2 ^ 64 + eight-octets) =
    ap (λ (z : ℕ). z + eight-octets) (add-mul (x * 2 ^ j) q (2 ^ 64)) ∙ ap (λ (z : ℕ). z + q * 2 ^ 64 + eight-octets) (mul_assoc x (2 ^ j) (2 ^ 64) ∙ ap (λ (z : ℕ). x * z) (sym (pow-add 2 j 64)))
    ∙ add_assoc (x * 2 ^ (j + 64)) (q * 2 ^ 64) eight-octets in
    after-few y 64 eight-octets (omega arith) ∙ ap (λ (z : ℕ). (z * 2 ^ 64 + eight-octets) % 2 ^ 192) e ∙ kept (x * 2 ^ j + q) (2 ^ 64) eight-octets (2 ^ 192) ∙ ap (λ (z : ℕ). z % 2 ^ 192) f

-- y is x after the bits of padding that are no whole word
module _ (x n y : ℕ) (e : y ≡ whole_after x (n % 64) eight-octets) where
  pub pad_few : n < 64 → y ≡ (x * 2 ^ n + pads 24 % 2 ^ n) % 2 ^ 192
  unfolding added
  pad_few h =
      let m : n % 64 ≡ n = omega arith in
      e ∙ ap (λ (z : ℕ). whole_after x z eight-octets) m ∙ after-few x n eight-octets (omega arith) ∙ ap (λ (z : ℕ). (x * 2 ^ n + z) % 2 ^ 192) (few-pads n (omega arith))

  part : y ≡ (x * 2 ^ (n % 64) + eight-octets % 2 ^ (n % 64)) % 2 ^ 192
  unfolding added
  part = e ∙ after-few x (n % 64) eight-octets (omega arith)

  module _ (z : ℕ) (f : z ≡ whole_after y 64 eight-octets) where
    next : z ≡ (x * 2 ^ (n % 64 + 64) + (eight-octets % 2 ^ (n % 64) * 2 ^ 64 + eight-octets)) % 2 ^ 192
    next = f ∙ word_more x (n % 64) (eight-octets % 2 ^ (n % 64)) y part

    pub pad_more : 64 ≤ n → n < 128 → z ≡ (x * 2 ^ n + pads 24 % 2 ^ n) % 2 ^ 192
    pad_more h l =
        let m : n % 64 + 64 ≡ n = omega arith in
        next ∙ ap (λ (k : ℕ). (x * 2 ^ (n % 64 + 64) + k) % 2 ^ 192) (more-pads (n % 64) (omega arith)) ∙ ap (λ (k : ℕ). (x * 2 ^ k + pads 24 % 2 ^ k) % 2 ^ 192) m

    pub pad_most : 128 ≤ n → n < 192 → (u : ℕ) → u ≡ whole_after z 64 eight-octets → u ≡ (x * 2 ^ n + pads 24 % 2 ^ n) % 2 ^ 192
    pad_most h l u g =
        let m : n % 64 + 64 + 64 ≡ n = omega arith in
        g ∙ word_more x (n % 64 + 64) (eight-octets % 2 ^ (n % 64) * 2 ^ 64 + eight-octets) z next
        ∙ ap (λ (k : ℕ). (x * 2 ^ (n % 64 + 64 + 64) + k) % 2 ^ 192) (most-pads (n % 64) (omega arith)) ∙ ap (λ (k : ℕ). (x * 2 ^ k + pads 24 % 2 ^ k) % 2 ^ 192) m

-- ## What `store` leaves

module _ (w : Words) (used : ℕ) (s : List ℕ) where
  pub stored-long : 23 < length s → s ≡ stored_in w used s
  unfolding stored_in
  stored-long h = rw (lt-leb (length s) 23 h)

  module _ (few : length s ≤ 23) where
    pub stored_short : length s * 8 < used → s ≡ stored_in w used s
    unfolding stored_in
    stored_short h = rw (le-leb (length s) 23 few, lt-leb used (length s * 8) h)

    -- e are the octets of what is there with its padding
    pub stored-done : used ≤ length s * 8 → (x : ℕ) (e : List ℕ) → x ≡ (whole w * 2 ^ (length s * 8 - used) + pads 24 % 2 ^ (length s * 8 - used)) % 2 ^ 192 → e ≡ digits (length s) x
        → e ≡ stored_in w used s
    unfolding stored_in
    stored-done h x e p q =
        let n = length s in
        let k : ℕ = n * 8 - used in
        let j : 192 - n * 8 + n * 8 ≡ 192 = omega arith in
        let g : ℕ = whole w * 2 ^ k + pads 24 % 2 ^ k in
        let d : e ≡ put_bits (replicate n 43) 0 (num_bits used (whole w)) =
        q ∙ ap (digits n) (p ∙ ap (λ (z : ℕ). g % 2 ^ z) (sym j)) ∙ digits_mod n g (192 - n * 8) ∙ sym (form-digits n used k (whole w) (omega arith) (omega arith)) in
        rw (le-leb (length s) 23 few, le-leb used (length s * 8) h) d

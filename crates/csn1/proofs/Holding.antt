-- Bits that stand somewhere in octets, and bits that are put there. Assumes nothing.
use mathlib.Core.Path.{◌≡◌, refl, sym, ap, ap₂, ◌∙◌, subst}
use mathlib.Core.List.{List, [], ◌∷◌, ◌++◌}
use Prim.Native.Nat.{ℕ, zero, suc, ◌+◌, ◌*◌, ◌/◌, ◌%◌, ◌^◌, ◌≤◌, ◌<◌}
use native.Mathlib.Nat.{pow-suc, add-zero}
use native.Mathlib.Omega.{arith}
use native.Mathlib.Decide.{ℕ_discrete}
use lib.ListN.{length, length-append}
use Rattle.bits.specs.Field.{bit, field, set_bit, set_field}
use Rattle.bits.proofs.Laws.{bit_lt, field-suc, field-zero, bit-set-same, bit-set-other, length-set_bit}
use Rattle.csn1.specs.Format.{num_bits, put_bits, Holds, Binary}

-- ## Bits that stand

pub holds-join : (s : List ℕ) (p : ℕ) (xs ys : List ℕ) → Holds s p xs → Holds s (p + length xs) ys → Holds s p (xs ++ ys)
holds-join s p [] ys h k = subst (λ (x : ℕ). Holds s x ys) (add-zero p) k
holds-join s p (x ∷ xs) ys h k =
    (h.0, holds-join s (p + 1) xs ys h.1 (subst (λ (x : ℕ). Holds s x ys) (omega arith) k))

pub holds-left : (s : List ℕ) (p : ℕ) (xs ys : List ℕ) → Holds s p (xs ++ ys) → Holds s p xs
holds-left s p [] ys h = tt
holds-left s p (x ∷ xs) ys h = (h.0, holds-left s (p + 1) xs ys h.1)

pub holds-right : (s : List ℕ) (p : ℕ) (xs ys : List ℕ) → Holds s p (xs ++ ys) → Holds s (p + length xs) ys
holds-right s p [] ys h = subst (λ (x : ℕ). Holds s x ys) (sym (add-zero p)) h
holds-right s p (x ∷ xs) ys h = subst (λ (x : ℕ). Holds s x ys) (omega arith) (holds-right s (p + 1) xs ys h.1)

-- where the same bits stand in two lists of octets, the two agree
pub holds_same : (s t : List ℕ) (p : ℕ) (bs : List ℕ) → Holds s p bs → Holds t p bs → (j : ℕ) → p ≤ j → j < p + length bs → bit s j ≡ bit t j
holds_same s t p [] h k j a b = absurd (omega arith)
holds_same s t p (x ∷ bs) h k j a b = go (ℕ_discrete j p) (λ l. holds_same s t (p + 1) bs h.1 k.1 j l (omega arith))
  where
    go : Dec (j ≡ p) → (p + 1 ≤ j → bit s j ≡ bit t j) → bit s j ≡ bit t j
    go (yes e) f = rw e (h.0 ∙ sym k.0)
    go (no n) f = f (omega arith)

pub binary-join : (xs ys : List ℕ) → Binary xs → Binary ys → Binary (xs ++ ys)
binary-join [] ys h k = k
binary-join (x ∷ xs) ys h k = (h.0, binary-join xs ys h.1 k)

pub num_bits-binary : (w v : ℕ) → Binary (num_bits w v)
unfolding num_bits
num_bits-binary zero v = tt
num_bits-binary (suc w) v = binary-join (num_bits w (v / 2)) (v % 2 ∷ []) (num_bits-binary w (v / 2)) ((omega arith, tt))

pub length-num_bits : (w v : ℕ) → length (num_bits w v) ≡ w
unfolding num_bits
length-num_bits zero v = refl
length-num_bits (suc w) v = length-append (num_bits w (v / 2)) (v % 2 ∷ []) ∙ omega (arith, length-num_bits w (v / 2))

-- a field's own bits stand there
pub holds-field : (s : List ℕ) (p w v : ℕ) → field s p w ≡ v → Holds s p (num_bits w v)
unfolding num_bits
holds-field s p zero v e = tt
holds-field s p (suc w) v e =
    let f = field-suc s p w in
    let b = bit_lt s (p + w) in
    holds-join s p (num_bits w (v / 2)) (v % 2 ∷ []) (holds-field s p w (v / 2) (omega arith))
    (rw (length-num_bits w (v / 2)) ((omega arith, tt)))

-- where a number's bits stand, it is the field
pub field-holds : (s : List ℕ) (p w v : ℕ) → v < 2 ^ w → Holds s p (num_bits w v) → field s p w ≡ v
unfolding num_bits
field-holds s p zero v l h = omega (arith, field-zero s p)
field-holds s p (suc w) v l h =
    let a = field-holds s p w (v / 2) (omega (arith, pow-suc 2 w)) (holds-left s p (num_bits w (v / 2)) (v % 2 ∷ []) h) in
    let b : bit s (p + w) ≡ v % 2 = rw (length-num_bits w (v / 2)) at (holds-right s p (num_bits w (v / 2)) (v % 2 ∷ []) h).0 in
    omega (arith, field-suc s p w)

-- ## Bits that are put

pub length_put : (s : List ℕ) (p : ℕ) (bs : List ℕ) → length (put_bits s p bs) ≡ length s
unfolding put_bits
length_put s p [] = refl
length_put s p (b ∷ bs) = length_put (set_bit s p b) (p + 1) bs ∙ length-set_bit s p b

-- putting from p on leaves what is below p
pub bit_put_below : (s : List ℕ) (p : ℕ) (bs : List ℕ) (j : ℕ) → Binary bs → j < p → bit (put_bits s p bs) j ≡ bit s j
unfolding put_bits
bit_put_below s p [] j k h = refl
bit_put_below s p (b ∷ bs) j k h = bit_put_below (set_bit s p b) (p + 1) bs j k.1 (omega arith) ∙ bit-set-other s p j b k.0 (λ e. omega arith)

-- and what is above the last of them
pub bit_put_above : (s : List ℕ) (p : ℕ) (bs : List ℕ) (j : ℕ) → Binary bs → p + length bs ≤ j → bit (put_bits s p bs) j ≡ bit s j
unfolding put_bits
bit_put_above s p [] j k h = refl
bit_put_above s p (b ∷ bs) j k h = bit_put_above (set_bit s p b) (p + 1) bs j k.1 (omega arith) ∙ bit-set-other s p j b k.0 (λ e. omega arith)

pub holds_put : (s : List ℕ) (p : ℕ) (bs : List ℕ) → Binary bs → p + length bs ≤ length s * 8 → Holds (put_bits s p bs) p bs
unfolding put_bits
holds_put s p [] k l = tt
holds_put s p (b ∷ bs) k l =
    let t : List ℕ = set_bit s p b in
    let e = length-set_bit s p b in
    (bit_put_below t (p + 1) bs p k.1 (omega arith) ∙ bit-set-same s p b k.0 (omega arith), holds_put t (p + 1) bs k.1 (omega arith))

pub put_join : (s : List ℕ) (p : ℕ) (xs ys : List ℕ) → put_bits s p (xs ++ ys) ≡ put_bits (put_bits s p xs) (p + length xs) ys
unfolding put_bits
put_join s p [] ys = ap (λ (k : ℕ). put_bits s k ys) (omega arith)
put_join s p (x ∷ xs) ys = put_join (set_bit s p x) (p + 1) xs ys ∙ ap (λ (k : ℕ). put_bits (put_bits (set_bit s p x) (p + 1) xs) k ys) (omega arith)

-- a field is put bit by bit
pub put_num : (s : List ℕ) (p w v : ℕ) → put_bits s p (num_bits w v) ≡ set_field s p w v
unfolding put_bits num_bits set_field
put_num s p zero v = refl
put_num s p (suc w) v =
    put_join s p (num_bits w (v / 2)) (v % 2 ∷ [])
    ∙ ap₂ (λ (t : List ℕ) (k : ℕ). set_bit t (p + k) (v % 2)) (put_num s p w (v / 2)) (length-num_bits w (v / 2))

-- Octets that pairs of digits spell, found one by one. Assumes nothing.
use mathlib.Core.Path.{◌≡◌, refl, sym, ap, ◌∙◌}
use Rattle.std.specs.Prelude.{unwrap_or}
use mathlib.Core.List.{List, [], ◌∷◌, ◌++◌, append-nil}
use native.Mathlib.Omega.{arith}
use Rattle.std.proofs.lemmas.Grind.{common_steps}
use native.Mathlib.Numerals.{add-one}
use Prim.Native.Nat.{ℕ, zero, suc, ◌+◌, ◌*◌, ◌/◌, ◌%◌, ◌≤◌, ◌<◌}
use lib.ListN.{length, get_or, set, take, drop}
use lib.Seq.{paste, paste-suc, length-take-le}
use Rattle.std.proofs.lemmas.List.{drop_all}
use Rattle.text.specs.Digits.{value, digit_value, octet_of, octets_of}

length-octets : (s : List ℕ) → length (octets_of s) ≡ length s / 2
unfolding octets_of
length-octets [] = refl
length-octets (c ∷ []) = refl
length-octets (c ∷ d ∷ s) = omega (arith, length-octets s)

octet-at : (s : List ℕ) (n i : ℕ) → i ≡ 2 * n → suc i < length s → get_or (octets_of s) n 0 ≡ octet_of (get_or s i 0) (get_or s (suc i) 0)
unfolding octets_of
octet-at [] n i e h = absurd (omega arith)
octet-at (c ∷ []) n i e h = absurd (omega arith)
octet-at (c ∷ d ∷ s) zero zero e h = refl
octet-at (c ∷ d ∷ s) zero (suc i) e h = absurd (omega arith)
octet-at (c ∷ d ∷ s) (suc n) zero e h = absurd (omega arith)
octet-at (c ∷ d ∷ s) (suc n) (suc zero) e h = absurd (omega arith)
octet-at (c ∷ d ∷ s) (suc n) (suc (suc i)) e h = octet-at s n i (omega arith) (omega arith)

-- one octet more is read
pub read_next : (l s : List ℕ) (n v : ℕ) → n < length l → n < length s / 2 → v ≡ octet_of (get_or s (2 * n) 0) (get_or s (2 * n + 1) 0)
    → set (paste l 0 (octets_of s) n) n v ≡ paste l 0 (octets_of s) (n + 1)
read_next l s n v h k e =
    let p : List ℕ = paste l 0 (octets_of s) n in
    let z : n ≡ 0 + n = omega arith in
    let g : v ≡ get_or (octets_of s) n 0 = rw (add-one (2 * n)) at e ∙ sym (octet-at s n (2 * n) refl (omega arith)) in
    ap (λ i. set p i v) z ∙ ap (set p (0 + n)) g ∙ rw (add-one n) (paste-suc l 0 (octets_of s) n 0 (omega arith) (omega (arith, length-octets s)))

-- a digit that is none counts as 0
pub digit_worth : (c : ℕ) → unwrap_or (digit_value c) 0 ≡ value c % 16
unfolding value
digit_worth c = grind (arith, common_steps)

-- n are read of the octets that there is room for, and the others stay
pub read_all : (l s o : List ℕ) (n i : ℕ) → n ≤ length l → i ≡ length (take n l) → o ≡ paste (take n l) 0 (octets_of s) i → o ++ drop n l ≡ paste l 0 (octets_of s) n
read_all l s o n i h w r =
    let t : List ℕ = take n (octets_of s) in
    let z : 0 + n ≡ n = omega arith in
    let k : i ≡ n = w ∙ length-take-le n l h in
    ap (λ x. x ++ drop n l) (r ∙ ap (λ m. paste (take n l) 0 (octets_of s) m) k)
    ∙ ap (λ m. (t ++ drop m (take n l)) ++ drop n l) z
    ∙ ap (λ x. (t ++ x) ++ drop n l) (drop_all n (take n l) (omega (arith, length-take-le n l h)))
    ∙ ap (λ x. x ++ drop n l) (append-nil t)
    ∙ ap (λ m. t ++ drop m l) (sym z)

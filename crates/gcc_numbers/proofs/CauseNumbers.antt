-- A cause as an array of numbers: the parts put together, and the order of the refusals. Assumes nothing.
use mathlib.Core.Path.{◌≡◌, refl, ap, sym, ◌∙◌}
use mathlib.Core.List.{List, [], ◌∷◌, ◌++◌}
use mathlib.Core.Bool.{Bool, true, false, not}
use Prim.Native.Nat.{ℕ, ◌+◌, ◌-◌}
use native.Mathlib.Omega.{arith}
use lib.ListN.{length, get_or, take, drop, set, replicate, length-drop}
use lib.Seq.{sets}
use borrow.Author.Tests.{eq-eqb, ne_eqb, not-true, not-false}
use Rattle.csn1.specs.Told.{padded}
use Rattle.gcc.specs.Cause.{meaning_numbers, write_number, write_to}
use Rattle.gcc.specs.declared.cause.Cause.{Cause}
use Rattle.gcc.specs.declared.cause.Meaning.{Meaning}
use Rattle.gcc.specs.declared.cause.Meaning.TheVariants.{Nothing, Specific, Unspecific}
use Rattle.bits.specs.Field.{pick}
use Rattle.arrays.specs.Limits.{within, octet}
use Rattle.gcc_numbers.specs.ElementNumbers.{kind_at, count_at, size_at, cause_length, cause_most, cause_holds, cause_fits, cause_from, wrong_length, cause_code}
use Rattle.gcc_numbers.specs.Inner.{OctetsFrom}
use Rattle.arrays.proofs.Running.{sets_append}
use Rattle.arrays.proofs.Within.{rest-whole}
use Rattle.gcc_numbers.proofs.Octets.{Most, octets-all, octets-from, widened, most-of}

-- ## Reading

pub meaning_two : (m : Meaning) → get_or (meaning_numbers m) 0 0 ∷ get_or (meaning_numbers m) 1 0 ∷ [] ≡ meaning_numbers m
meaning_two Nothing = refl
meaning_two (Specific n) = refl
meaning_two Unspecific = refl

-- its two numbers are put
pub meaning_put : (o p q : List ℕ) (m : Meaning) (x y : ℕ) → x ≡ get_or (meaning_numbers m) 0 0 → y ≡ get_or (meaning_numbers m) 1 0 → p ≡ set o 0 x → q ≡ set p 1 y
    → q ≡ sets o 0 (meaning_numbers m)
meaning_put o p q m x y e f g h = h ∙ rw (g, e, f) (ap (sets o 0) (meaning_two m))

-- the two parts are
pub parts_put : (o p q s d : List ℕ) (a b : ℕ) → length s ≡ 255 → p ≡ sets o count_at (a ∷ s) → q ≡ sets p size_at (b ∷ d) → q ≡ sets o count_at ((a ∷ s) ++ (b ∷ d))
parts_put o p q s d a b n e f =
    let i : count_at + length (a ∷ s) ≡ size_at = omega arith in
    f ∙ sym (sets_append o count_at (a ∷ s) (b ∷ d) ∙ rw (i, e))

-- cleared, then what the cause means, then the cause
pub cause-told : (n : ℕ) (k o p q c : List ℕ) (m : Meaning) → o ≡ padded 0 n (take 0 k) → p ≡ sets o kind_at (meaning_numbers m) → q ≡ sets p count_at c
    → q ≡ padded 0 n (meaning_numbers m ++ c)
cause-told n k o p q c m e f g =
    let i : length (meaning_numbers m) ≡ count_at = ap length (sym (meaning_two m)) in
    widened n o q (meaning_numbers m ++ c) k e (g ∙ sym (sets_append o kind_at (meaning_numbers m) c ∙ rw (i, f)))

-- ## Writing

-- the numbers behind the meaning, as a part of the array
abbrev pub behind : List ℕ → List ℕ
behind ns = take (length ns - count_at) (drop count_at ns)

-- what `are_octets` says of them
most-cause : (ns : List ℕ) (t : Bool) → length ns ≡ cause_length → t ≡ within (behind ns) (Most (behind ns)) → t ≡ cause_holds ns
unfolding cause_most
most-cause ns t h e =
    let r = rest-whole count_at ns in
    let n : length (behind ns) ≡ 512 = ap length r ∙ length-drop count_at ns ∙ omega arith in
    most-of (behind ns) 512 t n e ∙ ap (λ (l : List ℕ). within l (replicate 512 octet)) r

module _ (ns b : List ℕ) where
  -- what `write` answers and leaves
  abbrev Answers : ℕ → List ℕ → Type 0
  Answers r left = (r ≡ cause_code ns (length b)) × (left ≡ pick (cause_fits ns) (write_to (cause_from ns) b) b)

  pub cause_13 : (length ns ≡ cause_length → ⊥) → Answers 13 b
  cause_13 h = (rw (ne_eqb _ _ h), rw (ne_eqb _ _ h))

  -- t is the answer of the test that every number fits, u of the one that no septet is there or too many octets
  module _ (t : Bool) (h : length ns ≡ cause_length) (e : t ≡ within (behind ns) (Most (behind ns))) where
    not_held : not t ≡ true → cause_holds ns ≡ false
    not_held n = sym (most-cause ns t h e) ∙ not-true t n

    is-held : not t ≡ false → cause_holds ns ≡ true
    is-held n = sym (most-cause ns t h e) ∙ not-false t n

    pub cause-wrong_length : not t ≡ true → (u : Bool) → u ≡ wrong_length (get_or ns count_at 0) (get_or ns size_at 0) → u ≡ true → Answers 13 b
    cause-wrong_length n u f g = (rw (eq-eqb _ _ h, not_held n, ← f, g), rw (eq-eqb _ _ h, not_held n))

    pub cause_12 : not t ≡ true → (u : Bool) → u ≡ wrong_length (get_or ns count_at 0) (get_or ns size_at 0) → u ≡ false → Answers 12 b
    cause_12 n u f g = (rw (eq-eqb _ _ h, not_held n, ← f, g), rw (eq-eqb _ _ h, not_held n))

    -- then the cause is made of octets, and it is what its own writer says
    pub cause-octets : not t ≡ false → OctetsFrom count_at ns
    unfolding cause_most
    cause-octets n = octets-from count_at ns (octets-all (drop count_at ns) 512 (length-drop count_at ns ∙ omega arith) (is-held n))

    pub cause-own : not t ≡ false → (c : Cause) → c ≡ cause_from ns → (r : ℕ) (left : List ℕ) → r ≡ write_number c (length b) → left ≡ write_to c b → Answers r left
    cause-own n c p r left f g = (f ∙ rw (p, eq-eqb _ _ h, is-held n), g ∙ rw (p, eq-eqb _ _ h, is-held n))

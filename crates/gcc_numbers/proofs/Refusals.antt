-- What a writer answers before the element's own: 13 for another length, 12 for a number that its field cannot hold. Assumes nothing.
use mathlib.Core.Path.{◌≡◌, ap, sym, ◌∙◌}
use mathlib.Core.List.{List}
use mathlib.Core.Bool.{Bool, true, false, not}
use Prim.Native.Nat.{ℕ, ◌≤◌, ◌<◌}
use lib.Dec.{eqb}
use lib.ListN.{length, get_or}
use borrow.Author.Tests.{eq-eqb, ne_eqb, not-true, not-false}
use Rattle.bits.specs.Field.{pick}
use Rattle.bits.proofs.Answers.{both_true}
use Rattle.arrays.specs.Limits.{within}
use Rattle.gcc_numbers.specs.ElementNumbers.{fits, code_for}
use Rattle.arrays.proofs.Within.{within-at}

module _ (n : ℕ) (most ns : List ℕ) where
  pub code_13 : (own : ℕ) → (length ns ≡ n → ⊥) → 13 ≡ code_for n most ns own
  code_13 own h = rw (ne_eqb _ _ h)

  -- t is the answer of the test that every number fits
  pub code_12 : (own : ℕ) (t : Bool) → length ns ≡ n → t ≡ within ns most → not t ≡ true → 12 ≡ code_for n most ns own
  code_12 own t h e o = rw (eq-eqb _ _ h, ← e, not-true t o)

  pub fits-own : (t : Bool) → length ns ≡ n → t ≡ within ns most → not t ≡ false → fits n most ns ≡ true
  fits-own t h e o = rw (eq-eqb _ _ h, ← e, not-false t o)

  -- ## They fit: each is at most the largest of its field, and the element's own number is the answer

  pub fits-at : fits n most ns ≡ true → (k : ℕ) → k < length most → get_or ns k 0 ≤ get_or most k 0
  fits-at f k h = within-at ns most k (both_true (eqb (length ns) n) (within ns most) f).1 h

  pub code_fits : (own : ℕ) → fits n most ns ≡ true → own ≡ code_for n most ns own
  code_fits own f =
      let b = both_true (eqb (length ns) n) (within ns most) f in
      rw (b.0, b.1)

  -- ## An element that is written into octets, b, as w: the number, and what they hold then

  module _ (own : ℕ) (w b : List ℕ) where
    abbrev OctetsLeft : ℕ → List ℕ → Type 0
    OctetsLeft r left = (r ≡ code_for n most ns own) × (left ≡ pick (fits n most ns) w b)

    pub octets_13 : (length ns ≡ n → ⊥) → OctetsLeft 13 b
    octets_13 h = (code_13 own h, rw (ne_eqb _ _ h))

    pub octets_12 : (t : Bool) → length ns ≡ n → t ≡ within ns most → not t ≡ true → OctetsLeft 12 b
    octets_12 t h e o = (code_12 own t h e o, rw (eq-eqb _ _ h, ← e, not-true t o))

    pub octets-own : (r : ℕ) (left : List ℕ) → fits n most ns ≡ true → r ≡ own → left ≡ w → OctetsLeft r left
    octets-own r left f p q = (p ∙ code_fits own f, q ∙ rw f)

  -- ## One that is written into one number, and that its own writer may refuse: w is what that answered, v what it means

  module _ {W : Type 0} (refusal put : W → ℕ) (w v : W) (e : w ≡ v) (f : fits n most ns ≡ true) where
    pub own-refused : (refusal w ≡ 0 → ⊥) → (b : ℕ) → (refusal w ≡ code_for n most ns (refusal v)) × (b ≡ pick (eqb (refusal w) 0) (put v) b)
    own-refused h b = (ap refusal e ∙ code_fits (refusal v) f, rw (ne_eqb _ _ h))

    pub own-written : refusal w ≡ 0 → (0 ≡ code_for n most ns (refusal v)) × (put w ≡ put v)
    own-written z = (sym z ∙ ap refusal e ∙ code_fits (refusal v) f, ap put e)

-- The emergency marks of a list as they come, as numbers in an array of zeros. Assumes nothing.
use mathlib.Core.Path.{◌≡◌, refl}
use mathlib.Core.List.{List}
use mathlib.Core.Bool.{false}
use Prim.Native.Nat.{ℕ, ◌+◌, ◌*◌, ◌≤◌, ◌<◌}
use native.Mathlib.Omega.{arith}
use lib.ListN.{set}
use Rattle.bits.specs.Field.{fetched}
use Rattle.bits.specs.declared.Got.TheVariants.{Bits}
use Rattle.csn1.specs.declared.Refusal.{Refusal}
use Rattle.csn1.specs.Format.{ok, bad, no_refusal, num, list}
use Rattle.csn1.specs.Told.{is_one}
use Rattle.csn1.proofs.Writing.{bit-back}
use Rattle.arrays.specs.Runs.{stored}
use Rattle.arrays.specs.Inner.{Zeros, Left}
use Rattle.arrays.proofs.Zeroed.{zeros-later, left-bad, Kept, kept_begin, kept-one, kept-left}
use Rattle.nch.specs.declared.lists.ListPassed.{ListPassed}
use Rattle.nch.specs.Places.{marks_at, first_mark, most_marks}
use Rattle.nch.specs.NotificationNumbers.{mark_numbers}
use Rattle.nch.specs.Inner.{list_passed, marks_run}
use Rattle.nch.proofs.Lengths.{length_mark}

-- at the head of the loop over it: the first of the marks that were read stand in their places
abbrev pub KeptMarks : List ℕ → ℕ → List ℕ → List ℕ → ℕ → ℕ → Type 0
KeptMarks s start old numbers count at = Kept mark_numbers 1 length_mark (num 1) is_one false most_marks s start old first_mark numbers count at

-- a mark in its place
mark_stored : (l : List ℕ) (count v : ℕ) → v < 2 → set l (first_mark + count) v ≡ stored l (first_mark + 1 * count) (mark_numbers (is_one v))
unfolding stored mark_numbers
mark_stored l count v h =
    let k : first_mark + 1 * count ≡ first_mark + count = omega arith in
    rw (k, bit-back v h) refl

module _ (s : List ℕ) (start : ℕ) (old : List ℕ) where
  pub marks_begin : Zeros old marks_at → KeptMarks s start old old 0 start
  unfolding mark_numbers
  marks_begin z = kept_begin mark_numbers 1 length_mark (num 1) is_one false most_marks s start old first_mark refl (zeros-later old marks_at first_mark (omega arith) z)

  -- the list is refused
  pub marks-refused : (after : List ℕ) (w v : Refusal) (r : ListPassed) → r ≡ list_passed {A = ℕ} (bad w) → w ≡ v → (list (num 1)).read s start ≡ bad v
      → Left list_passed marks_run marks_at ((list (num 1)).read s start) r old after
  marks-refused = left-bad list_passed marks_run marks_at ((list (num 1)).read s start) old

  module _ (numbers : List ℕ) (count at : ℕ) (i : KeptMarks s start old numbers count at) where
    -- a mark that has a place
    pub marks-one : (f v q : ℕ) → Bits f ≡ fetched s at 1 → (f ≡ 0 → ⊥) → (num 1).read s (at + 1) ≡ ok v q → at + 1 ≤ q → v < 2 → count < most_marks
        → KeptMarks s start old (set numbers (first_mark + count) v) (count + 1) q
    marks-one f v q e y x l two h = kept-one i f v q (is_one v) (set numbers (first_mark + count) v) e y x l h refl (mark_stored numbers count v two)

    -- the loop has met the 0 that closes the list
    pub marks-end : (f : ℕ) → Bits f ≡ fetched s at 1 → f ≡ 0 → (r : Refusal) → r ≡ no_refusal
        → Left list_passed marks_run marks_at ((list (num 1)).read s start) (record { refusal = r; count = count; at = at + 1 }) old (set numbers marks_at count)
    marks-end f e y r g = kept-left i marks_at refl f e y list_passed (λ u k q. record { refusal = u; count = k; at = q }) (λ l q. refl) r g

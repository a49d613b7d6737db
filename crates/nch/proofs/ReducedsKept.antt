-- The reduced references of a list as they come, as numbers in an array of zeros. Assumes nothing.
use mathlib.Core.Path.{◌≡◌, refl}
use mathlib.Core.List.{List}
use Prim.Native.Nat.{ℕ, ◌+◌, ◌*◌, ◌≤◌, ◌<◌}
use native.Mathlib.Numerals.{add-one}
use native.Mathlib.Omega.{arith}
use lib.ListN.{get_or, set}
use Rattle.bits.specs.Field.{fetched}
use Rattle.bits.specs.declared.Got.TheVariants.{Bits}
use Rattle.bits.proofs.Laws.{field_lt}
use Rattle.csn1.specs.declared.Refusal.{Refusal}
use Rattle.csn1.specs.Format.{ok, bad, no_refusal, row, list}
use Rattle.csn1.specs.Grammar.{format}
use Rattle.csn1.proofs.Writing.{bit-back}
use Rattle.arrays.specs.Runs.{stored}
use Rattle.arrays.specs.Inner.{Zeros, Left}
use Rattle.arrays.proofs.Zeroed.{zeros-later, left-bad, Kept, kept_begin, kept-one, kept_more, kept-left}
use Rattle.nch.specs.declared.lists.ListPassed.{ListPassed}
use Rattle.nch.specs.Octets.{reduced}
use Rattle.nch.specs.Told.{reduced_of, no_reduced}
use Rattle.nch.specs.Places.{reduceds_at, first_reduced, reduced_length, most_reduceds}
use Rattle.nch.specs.NotificationNumbers.{reduced_numbers}
use Rattle.nch.specs.Inner.{list_passed, reduceds_run}
use Rattle.nch.proofs.Reading6.{widths, reduced-low, row_reached, row_fields}
use Rattle.nch.proofs.Lengths.{length-reduced}

-- ## A reduced reference

-- its two fields, behind the 1 that leads it
module _ (s : List ℕ) (at : ℕ) (parts : List ℕ) (next : ℕ) (x : (row widths).read s (at + 1) ≡ ok parts next) where
  vgcs_bit : get_or parts 1 0 < 2
  vgcs_bit = rw (← row_fields widths s (at + 1) parts next x) (field_lt s (at + 1 + 27) 1)

  -- its two numbers, each in its place
  reduced-stored : (l : List ℕ) (i : ℕ) → set (set l i (get_or parts 0 0)) (i + 1) (get_or parts 1 0) ≡ stored l i (reduced_numbers (reduced_of parts))
  unfolding stored reduced_numbers
  reduced-stored l i = rw (add-one i, bit-back (get_or parts 1 0) vgcs_bit) refl

-- ## The list

-- at the head of the loop over it: the first of the references that were read stand in their places
abbrev pub KeptReduceds : List ℕ → ℕ → List ℕ → List ℕ → ℕ → ℕ → Type 0
KeptReduceds s start old numbers count at =
    Kept reduced_numbers reduced_length length-reduced (format reduced) reduced_of no_reduced most_reduceds s start old first_reduced numbers count at

module _ (s : List ℕ) (start : ℕ) (old : List ℕ) where
  pub reduceds_begin : Zeros old reduceds_at → KeptReduceds s start old old 0 start
  unfolding reduced_numbers
  reduceds_begin z =
      kept_begin reduced_numbers reduced_length length-reduced (format reduced) reduced_of no_reduced most_reduceds s start old first_reduced refl
      (zeros-later old reduceds_at first_reduced (omega arith) z)

  -- the list is refused
  pub reduceds_refused : (after : List ℕ) (w v : Refusal) (r : ListPassed) → r ≡ list_passed {A = ℕ} (bad w) → w ≡ v → (list (format reduced)).read s start ≡ bad v
      → Left list_passed reduceds_run reduceds_at ((list (format reduced)).read s start) r old after
  reduceds_refused = left-bad list_passed reduceds_run reduceds_at ((list (format reduced)).read s start) old

  module _ (numbers : List ℕ) (count at : ℕ) (i : KeptReduceds s start old numbers count at) (f : ℕ) (e : Bits f ≡ fetched s at 1) where
    module _ (y : f ≡ 0 → ⊥) (parts : List ℕ) (next : ℕ) (x : (row widths).read s (at + 1) ≡ ok parts next) (m : get_or parts 0 0 ≤ 99999999) where
      entry : (format reduced).read s (at + 1) ≡ ok parts next
      entry = reduced-low s (at + 1) parts next x m

      behind : at + 1 ≤ next
      behind = omega (arith, row_reached widths s (at + 1) parts next x)

      -- a reference that has a place, and one that has none
      pub reduceds-one : (place : ℕ) → place ≡ first_reduced + reduced_length * count → count < most_reduceds
          → KeptReduceds s start old (set (set numbers place (get_or parts 0 0)) (place + 1) (get_or parts 1 0)) (count + 1) next
      reduceds-one place p h =
          kept-one i f parts next (reduced_of parts) (set (set numbers place (get_or parts 0 0)) (place + 1) (get_or parts 1 0)) e y entry behind h refl
          (rw (← p) (reduced-stored s at parts next x numbers place))

      pub reduceds_more : most_reduceds ≤ count → KeptReduceds s start old numbers (count + 1) next
      reduceds_more h = kept_more i f parts next e y entry behind h

    -- the loop has met the 0 that closes the list
    pub reduceds_end : f ≡ 0 → (r : Refusal) → r ≡ no_refusal
        → Left list_passed reduceds_run reduceds_at ((list (format reduced)).read s start) (record { refusal = r; count = count; at = at + 1 }) old (set numbers reduceds_at count)
    reduceds_end y r g = kept-left i reduceds_at refl f e y list_passed (λ u k q. record { refusal = u; count = k; at = q }) (λ l q. refl) r g

-- The random entries of a list as they come, as numbers in an array of zeros. Assumes nothing.
use mathlib.Core.Path.{◌≡◌, refl, ap₂, ◌∙◌}
use mathlib.Core.List.{List}
use mathlib.Core.Bool.{Bool}
use mathlib.Core.Option.{Option}
use Prim.Native.Nat.{ℕ, ◌+◌, ◌*◌, ◌≤◌, ◌<◌}
use native.Mathlib.Numerals.{add-one, add-two}
use native.Mathlib.Omega.{arith}
use mir.Val.{bool_byte}
use lib.ListN.{set}
use Rattle.bits.specs.Field.{fetched}
use Rattle.bits.specs.declared.Got.TheVariants.{Bits}
use Rattle.csn1.specs.declared.Refusal.{Refusal}
use Rattle.csn1.specs.declared.Flagged.{Flagged}
use Rattle.csn1.specs.Format.{ok, bad, no_refusal, list}
use Rattle.csn1.specs.Grammar.{format}
use Rattle.csn1.specs.Told.{is_there, or_zero, is_one}
use Rattle.csn1.proofs.Writing.{bit-back, flag_byte}
use Rattle.arrays.specs.Runs.{stored}
use Rattle.arrays.specs.Inner.{Zeros, Left}
use Rattle.arrays.proofs.Zeroed.{zeros-later, left-bad, Kept, kept_begin, kept-one, kept-left}
use Rattle.nch.specs.declared.lists.ListPassed.{ListPassed}
use Rattle.nch.specs.Octets.{random}
use Rattle.nch.specs.Told.{random_of, no_random}
use Rattle.nch.specs.Places.{randoms_at, first_random, random_length, most_randoms}
use Rattle.nch.specs.NotificationNumbers.{random_numbers}
use Rattle.nch.specs.Inner.{list_passed, randoms_run}
use Rattle.nch.proofs.Lengths.{length-random}

-- ## An entry's three numbers

-- segment, flag and value, each behind the one before it
abbrev three_set : List ℕ → ℕ → ℕ → Bool → ℕ → List ℕ
three_set l place v there value = set (set (set l place v) (place + 1) (bool_byte there)) (place + 2) value

-- the three writes are the run of the entry
three-stored : (l : List ℕ) (place v : ℕ) (there : Bool) (value : ℕ) → v < 2
    → three_set l place v there value ≡ stored l place (random_numbers (record { segment = is_one v; hasRandom = there; rand = value }))
unfolding stored random_numbers
three-stored l place v there value h = rw (add-one place, add-two place, flag_byte there, bit-back v h)

-- ## The list

-- at the head of the loop over it: the first of the entries that were read stand in their places
abbrev pub KeptRandoms : List ℕ → ℕ → List ℕ → List ℕ → ℕ → ℕ → Type 0
KeptRandoms s start old numbers count at =
    Kept random_numbers random_length length-random (format random) random_of no_random most_randoms s start old first_random numbers count at

module _ (s : List ℕ) (start : ℕ) (old : List ℕ) where
  pub randoms_begin : Zeros old randoms_at → KeptRandoms s start old old 0 start
  unfolding random_numbers
  randoms_begin z =
      kept_begin random_numbers random_length length-random (format random) random_of no_random most_randoms s start old first_random refl
      (zeros-later old randoms_at first_random (omega arith) z)

  -- the list is refused
  pub randoms-refused : (after : List ℕ) (w v : Refusal) (r : ListPassed) → r ≡ list_passed {A = ℕ} (bad w) → w ≡ v → (list (format random)).read s start ≡ bad v
      → Left list_passed randoms_run randoms_at ((list (format random)).read s start) r old after
  randoms-refused = left-bad list_passed randoms_run randoms_at ((list (format random)).read s start) old

  module _ (numbers : List ℕ) (count at : ℕ) (i : KeptRandoms s start old numbers count at) where
    -- an entry that has a place
    pub randoms-one : (v b : ℕ) (r : Flagged) (o : Option ℕ) (new : List ℕ) → Bits v ≡ fetched s at 1 → (v ≡ 0 → ⊥) → b < 2
        → (format random).read s (at + 1) ≡ ok (b, o) r.at
        → at + 1 ≤ r.at
        → r.hasValue ≡ is_there o
        → r.value ≡ or_zero o
        → count < most_randoms
        → new ≡ three_set numbers (first_random + random_length * count) b r.hasValue r.value
        → KeptRandoms s start old new (count + 1) r.at
    randoms-one v b r o new e y two x l t u h m =
        kept-one i v (b, o) r.at (record { segment = is_one b; hasRandom = r.hasValue; rand = r.value }) new e y x l h
        (ap₂ (λ (g : Bool) (n : ℕ). record { segment = is_one b; hasRandom = g; rand = n }) t u)
        (m ∙ three-stored numbers (first_random + random_length * count) b r.hasValue r.value two)

    -- the loop has met the 0 that closes the list
    pub randoms-end : (f : ℕ) → Bits f ≡ fetched s at 1 → f ≡ 0 → (r : Refusal) → r ≡ no_refusal
        → Left list_passed randoms_run randoms_at ((list (format random)).read s start) (record { refusal = r; count = count; at = at + 1 }) old (set numbers randoms_at count)
    randoms-end f e y r g = kept-left i randoms_at refl f e y list_passed (λ u k q. record { refusal = u; count = k; at = q }) (λ l q. refl) r g

-- What only private functions' contracts speak of; nothing public rests on it. Assumes nothing.
use Rattle.std.specs.Prelude.{List, [], ◌∷◌, Bool, false, ℕ, ◌+◌, ◌≤◌, length, get_or}
use Rattle.std.proofs.Math.Option.{Option}
use Rattle.bits.specs.Field.{both}
use Rattle.csn1.specs.Format.{Res, ok, bad, no_refusal}
use Rattle.csn1.specs.Told.{is_there, or_zero, is_one, as_bit}
use Rattle.arrays.specs.Limits.{octet, word}
use Rattle.arrays.specs.Inner.{list_run}
use Rattle.call.specs.declared.Call.{Call}
use Rattle.call.specs.Call.{CallValue, call_of, no_call}
use Rattle.call.specs.Write.{call_in_range, call_is_low, call_length_right, call_hops_right}
use Rattle.nch.specs.declared.Reduced.{Reduced}
use Rattle.nch.specs.declared.lists.CallsPassed.{CallsPassed}
use Rattle.nch.specs.declared.lists.ListPassed.{ListPassed}
use Rattle.nch.specs.declared.additions.Release6Passed.{Release6Passed}
use Rattle.nch.specs.declared.additions.PartPassed.{PartPassed}
use Rattle.nch.specs.Octets.{Release6Value, AmrValue, Release7Value, Value, count, ciphered_value, described_value, reduceds_in, randoms_in, marks_in}
use Rattle.nch.specs.Told.{reduced_of, no_reduced, random_of, no_random, release6_of, full_rate, half_rate, confidentiality, privacy, release7_of, record_of}
use Rattle.nch.specs.Places.{most_calls, reduced_length, most_reduceds, most_randoms, most_marks}
use Rattle.nch.specs.CallNumbers.{call_numbers, whole}
use Rattle.nch.specs.NotificationNumbers.{reduced_numbers, random_numbers, mark_numbers, release6_numbers, release7_numbers, numbers_of, reduced_by}

-- ## What is passed on: why not, what refusals 6 and 7 count, and the place behind the part

abbrev pub calls_passed : Res (List CallValue) → CallsPassed
calls_passed (bad r) = record { refusal = r; ciphered = 0; described = 0; at = 0 }
calls_passed (ok l q) = record { refusal = no_refusal; ciphered = count ciphered_value l; described = count described_value l; at = q }

abbrev pub list_passed : {A : Type 0} → Res (List A) → ListPassed
list_passed (bad r) = record { refusal = r; count = 0; at = 0 }
list_passed (ok l q) = record { refusal = no_refusal; count = length l; at = q }

abbrev pub part_passed : {A : Type 0} → Res A → PartPassed
part_passed (bad r) = record { refusal = r; at = 0 }
part_passed (ok v q) = record { refusal = no_refusal; at = q }

abbrev pub release6_passed : Res (Option Release6Value) → Release6Passed
release6_passed (bad r) = record { refusal = r; reduced = 0; randoms = 0; at = 0 }
release6_passed (ok v q) = record { refusal = no_refusal; reduced = length (reduceds_in v); randoms = length (randoms_in v); at = q }

-- of Release 7 how many marks there are
abbrev pub release7_passed : Res (Option Release7Value) → ListPassed
release7_passed (bad r) = record { refusal = r; count = 0; at = 0 }
release7_passed (ok v q) = record { refusal = no_refusal; count = length (marks_in v); at = q }

-- ## What is left in the array

abbrev pub calls_run : List CallValue → List ℕ
calls_run l = list_run call_of no_call call_numbers most_calls l

abbrev pub reduceds_run : List (List ℕ) → List ℕ
reduceds_run l = list_run reduced_of no_reduced reduced_numbers most_reduceds l

abbrev pub randoms_run : List (ℕ × Option ℕ) → List ℕ
randoms_run l = list_run random_of no_random random_numbers most_randoms l

abbrev pub marks_run : List ℕ → List ℕ
marks_run l = list_run is_one false mark_numbers most_marks l

abbrev pub amr_run : Option AmrValue → List ℕ
amr_run v =
    as_bit (is_there v) ∷ as_bit (is_there (full_rate v)) ∷ or_zero (full_rate v) ∷ as_bit (is_there (half_rate v)) ∷ or_zero (half_rate v) ∷ []

abbrev pub sms_run : Option (ℕ × ℕ) → List ℕ
sms_run v = as_bit (is_there v) ∷ as_bit (confidentiality v) ∷ as_bit (privacy v) ∷ []

abbrev pub release6_run : Option Release6Value → List ℕ
release6_run v = release6_numbers (release6_of v)

abbrev pub release7_run : Option Release7Value → List ℕ
release7_run v = release7_numbers (release7_of v)

abbrev pub all_run : Value → List ℕ
all_run v = numbers_of (record_of v)

-- ## What is told of numbers

abbrev pub reduced_from : List ℕ → ℕ → Reduced
reduced_from ns at = reduced_by whole ns at

-- the numbers are there, and what is no flag fits its field
pub record DescriptionFits (ns : List ℕ) (at : ℕ) : Type 0 where
  pub there : at + 5 ≤ length ns
  pub channel : get_or ns at 0 ≤ word
  pub octets : get_or ns (at + 3) 0 ≤ octet

pub record CallFits (ns : List ℕ) (at : ℕ) : Type 0 where
  pub reference : get_or ns at 0 ≤ word
  pub priority : get_or ns (at + 3) 0 ≤ octet
  pub cipher : get_or ns (at + 4) 0 ≤ octet
  pub description : DescriptionFits ns (at + 6)

pub record ReducedFits (ns : List ℕ) (at : ℕ) : Type 0 where
  pub there : at + reduced_length ≤ length ns
  pub reference : get_or ns at 0 ≤ word

-- ## Writing

-- a call that no test refuses
abbrev pub call_right : Call → Bool
call_right c = both (call_in_range c) (both (call_is_low c) (both (call_length_right c) (call_hops_right c)))

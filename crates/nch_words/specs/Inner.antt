-- What only private functions' contracts speak of; nothing public rests on it. Assumes nothing.
use Rattle.std.specs.Prelude.{◌≡◌, List, [], ◌∷◌, true, false, ◌⊎◌, ℕ, ◌+◌, ◌*◌, ◌/◌, ◌%◌, ◌≤◌, ◌<◌, length, set}
use Rattle.std.proofs.Math.Option.{Option, some}
use Rattle.std.proofs.Common.{inl, inr}
use mir.Val.{bool_byte}
use Rattle.bits.specs.Field.{field}
use Rattle.csn1.specs.Format.{Res, no_refusal, num, opt, ◌⨟◌}
use Rattle.csn1.specs.Grammar.{number, flagged, format}
use Rattle.csn1.specs.Told.{is_there, or_zero, lead_at, lead_of}
use Rattle.arrays.specs.Runs.{stored}
use Rattle.arrays.specs.Inner.{Zeros, Left}
use Rattle.call.specs.Call.{DescriptionValue, CallValue, allocation_length, allocation_octets, description_of, call_of}
use Rattle.nch.specs.declared.lists.CallsPassed.{CallsPassed}
use Rattle.nch.specs.declared.lists.ListPassed.{ListPassed}
use Rattle.nch.specs.declared.additions.Release6Passed.{Release6Passed}
use Rattle.nch.specs.declared.additions.PartPassed.{PartPassed}
use Rattle.nch.specs.Octets.{Release6Value, Release7Value, amr, ciphered_value, described_value, read_octets}
use Rattle.nch.specs.Places.{numbered_at, calls_at, release6_at, release7_at, amr_at, sms_at}
use Rattle.nch.specs.CallNumbers.{description_numbers, call_numbers}
use Rattle.nch.specs.Inner.{calls_passed, list_passed, part_passed, release6_passed, release7_passed, calls_run, amr_run, sms_run, release6_run, release7_run, all_run}
use Rattle.words.specs.Unasked.{Took, took, unmet, taken}
use Rattle.nch_words.specs.declared.parts.TakenPart.{TakenPart}
use Rattle.nch_words.specs.declared.calls.TakenOne.{TakenOne}
use Rattle.nch_words.specs.declared.calls.TakenCalls.{TakenCalls}
use Rattle.nch_words.specs.declared.lists.TakenList.{TakenList}
use Rattle.nch_words.specs.declared.additions.TakenSix.{TakenSix}
use Rattle.nch_words.specs.declared.additions.TakenLead.{TakenLead}

-- ## What is passed on of a part, and what is left in the array

-- the numbers of what was taken stand from a place on, and all else is as it was
abbrev pub Put : {A : Type 0} → (A → List ℕ) → ℕ → Took A → List ℕ → List ℕ → Type 0
Put run place (took v q) before after = after ≡ stored before place (run v)
Put run place unmet before after = Unit {0}

abbrev pub no_part_taken : TakenPart
no_part_taken = record { done = false; at = 0 }

abbrev pub part_taken : {A : Type 0} → Took A → TakenPart
part_taken (took v q) = record { done = true; at = q }
part_taken unmet = no_part_taken

-- a number led by a flag, from bit k of the 64 bits at p on to bit r
pub record FlagPut (s : List ℕ) (p k w place r : ℕ) (before after : List ℕ) : Type 0 where
  pub value : Option ℕ
  pub is : taken (flagged (number w)) s (p + k) ≡ took value (p + r)
  pub left : after ≡ set (set before place (bool_byte (is_there value))) (place + 1) (or_zero value)

abbrev pub FlagTaken : ℕ → ℕ → ℕ → ℕ → ℕ → List ℕ → List ℕ → Type 0
FlagTaken x k w place r before after =
    (k < r) × ((r ≤ k + 1 + w) × (Zeros after (place + 2) × ((s : List ℕ) (p : ℕ) → x ≡ field s p 64 → FlagPut s p k w place r before after)))

-- ## A call

abbrev pub head_numbers : ℕ → List ℕ
head_numbers h = h / 512 ∷ h / 256 % 2 ∷ h / 128 % 2 ∷ h / 16 % 8 ∷ h % 16 ∷ []

-- short list, octets of the mobile allocation, frequencies
abbrev pub frequencies_run : (ℕ × ℕ) ⊎ ℕ → List ℕ
frequencies_run (inl a) = 0 ∷ allocation_length a ∷ allocation_octets a ∷ []
frequencies_run (inr l) = 1 ∷ 0 ∷ l ∷ []

-- described, then the description
abbrev pub described_run : DescriptionValue → List ℕ
described_run v = 1 ∷ description_numbers (description_of (some v))

abbrev pub call_run : CallValue → List ℕ
call_run v = call_numbers (call_of v)

abbrev pub no_one_taken : TakenOne
no_one_taken = record { done = false; ciphered = false; described = false; at = 0 }

abbrev pub call_taken : Took CallValue → TakenOne
call_taken (took v q) = record { done = true; ciphered = ciphered_value v; described = described_value v; at = q }
call_taken unmet = no_one_taken

-- ## Lists and releases: where they were taken, they are what was read, and their place is inside

abbrev pub no_calls_taken : TakenCalls
no_calls_taken = record { done = false; ciphered = 0; described = 0; at = 0 }

abbrev pub calls_done : TakenCalls → CallsPassed
calls_done r = record { refusal = no_refusal; ciphered = r.ciphered; described = r.described; at = r.at }

abbrev pub CallsTaken : Res (List CallValue) → TakenCalls → List ℕ → List ℕ → Type 0
CallsTaken x r before after = (r.at ≤ 160) × (r.done ≡ true → Left calls_passed calls_run calls_at x (calls_done r) before after)

abbrev pub no_list_taken : TakenList
no_list_taken = record { done = false; count = 0; at = 0 }

abbrev pub list_done : TakenList → ListPassed
list_done r = record { refusal = no_refusal; count = r.count; at = r.at }

abbrev pub ListTaken : {A : Type 0} → (List A → List ℕ) → ℕ → Res (List A) → TakenList → List ℕ → List ℕ → Type 0
ListTaken run place x r before after = (r.at ≤ 160) × (r.done ≡ true → Left list_passed run place x (list_done r) before after)

-- a random entry, from the bit that leads it on to bit r
pub record RandomPut (s : List ℕ) (p place r : ℕ) (before after : List ℕ) : Type 0 where
  pub segment : ℕ
  pub value : Option ℕ
  pub first : segment ≡ field s (p + 1) 1
  pub is : taken (flagged (number 36)) s (p + 2) ≡ took value (p + r)
  pub left : after ≡ set (set (set before place segment) (place + 1) (bool_byte (is_there value))) (place + 2) (or_zero value)

abbrev pub RandomTaken : ℕ → ℕ → ℕ → List ℕ → List ℕ → Type 0
RandomTaken x place r before after = (2 < r) × ((r ≤ 39) × ((s : List ℕ) (p : ℕ) → x ≡ field s p 64 → RandomPut s p place r before after))

abbrev pub LeadTaken : List ℕ → ℕ → TakenLead → Type 0
LeadTaken s at r = (r.at ≤ 160) × (record { refusal = no_refusal; high = r.high; at = r.at } ≡ lead_of (lead_at s at))

abbrev pub no_six_taken : TakenSix
no_six_taken = record { done = false; reduced = 0; randoms = 0; at = 0 }

abbrev pub six_done : TakenSix → Release6Passed
six_done r = record { refusal = no_refusal; reduced = r.reduced; randoms = r.randoms; at = r.at }

abbrev pub SixTaken : Res (Option Release6Value) → TakenSix → List ℕ → List ℕ → Type 0
SixTaken x r before after = (r.at ≤ 160) × (r.done ≡ true → Left release6_passed release6_run release6_at x (six_done r) before after)

abbrev pub SevenTaken : Res (Option Release7Value) → TakenList → List ℕ → List ℕ → Type 0
SevenTaken x r before after = (r.at ≤ 160) × (r.done ≡ true → Left release7_passed release7_run release7_at x (list_done r) before after)

-- parts of Release 7 that are taken from bit k of the 64 bits at p on to bit r: where that is inside, they were read
abbrev pub part_done : ℕ → PartPassed
part_done q = record { refusal = no_refusal; at = q }

abbrev pub AmrTaken : ℕ → ℕ → ℕ → List ℕ → List ℕ → Type 0
AmrTaken x k r before after =
    (k < r) × ((r ≤ k + 11) × (Zeros after sms_at
    × ((s : List ℕ) (p : ℕ) → x ≡ field s p 64 → p + r ≤ length s * 8 → Left part_passed amr_run amr_at ((opt (format amr)).read s (p + k)) (part_done (p + r)) before after)))

abbrev pub SmsTaken : ℕ → ℕ → ℕ → List ℕ → List ℕ → Type 0
SmsTaken x k r before after =
    (k < r) × ((r ≤ k + 3)
    × ((s : List ℕ) (p : ℕ) → x ≡ field s p 64 → p + r ≤ length s * 8 → Left part_passed sms_run sms_at ((opt (num 1 ⨟ num 1)).read s (p + k)) (part_done (p + r)) before after))

abbrev pub AllTaken : List ℕ → TakenPart → List ℕ → List ℕ → Type 0
AllTaken s r before after = r.done ≡ true → Left part_passed all_run numbered_at (read_octets s) (part_done r.at) before after

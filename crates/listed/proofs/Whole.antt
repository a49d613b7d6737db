-- Two answers with the same fields are equal. Assumes nothing.
use mathlib.Core.Path.{◌≡◌, refl, sym, ap, ◌∙◌}
use mathlib.Core.List.{List, [], ◌∷◌, map}
use mathlib.Core.Bool.{Bool, true, false}
use mathlib.Core.Logic.{inl as number, inr as flag}
use Prim.Native.Nat.{ℕ}
use lib.ListN.{get_or, drop}
use borrow.Author.Tests.{eqb-true}
use Rattle.bits.proofs.Answers.{both_true}
use Rattle.call.specs.declared.Call.{Call}
use Rattle.call.specs.declared.Description.{Description}
use Rattle.nch.specs.declared.Reduced.{Reduced}
use Rattle.nch.specs.declared.Random.{Random}
use Rattle.nch.specs.declared.Release6.{Release6}
use Rattle.nch.specs.declared.Release7.{Release7}
use Rattle.nch.specs.declared.Reading.{Reading}
use Rattle.receiver.specs.declared.Common.{Common}
use Rattle.receiver.specs.declared.Record.{Record}
use Rattle.receiver.specs.declared.Slot.{Slot}
use Rattle.receiver.specs.declared.Told.{Told}
use Rattle.receiver.specs.declared.Answer.{Answer}
use Rattle.receiver.specs.declared.Paged.{Paged}
use Rattle.gcc.specs.declared.cause.Meaning.{Meaning}
use Rattle.gcc.specs.declared.cause.Meaning.TheVariants.{Nothing, Specific, Unspecific}
use Rattle.gcc.specs.declared.cause.Reading.{Reading as CauseReading}
use Rattle.gcc.specs.declared.digits.Reading.{Reading as DigitsReading}
use Rattle.listed.proofs.Fields.{Nested, same_flag, same_field, pairwise, same, of_call, of_reduced, of_random, of_reading, of_told, of_slot, of_answer, of_meaning, of_cause, of_digits}

-- ## The test

-- a test that only equals pass
abbrev pub Sound : {A : Type 0} → (A → A → Bool) → Type 0
Sound {A} t = (a b : A) → t a b ≡ true → a ≡ b

flag-sound : Sound same_flag
flag-sound true b e = cc
flag-sound false true e = cc
flag-sound false false e = refl

field-sound : Sound same_field
field-sound (number m) (number n) e = ap number (eqb-true m n e)
field-sound (flag a) (flag b) e = ap flag (flag-sound a b e)
field-sound (number m) (flag b) e = cc
field-sound (flag a) (number n) e = cc

pub pairwise-sound : {A : Type 0} (t : A → A → Bool) → Sound t → Sound (pairwise t)
pairwise-sound t h [] [] e = refl
pairwise-sound t h [] (b ∷ m) e = cc
pairwise-sound t h (a ∷ l) [] e = cc
pairwise-sound t h (a ∷ l) (b ∷ m) e =
    let p = both_true (t a b) (pairwise t l m) e in
    let q : a ≡ b = h a b p.0 in
    let r : l ≡ m = pairwise-sound t h l m p.1 in
    cc

pub same-sound : Sound same
same-sound = pairwise-sound _ (pairwise-sound _ (pairwise-sound _ field-sound))

-- ## Fields say the struct: it is made from them again

abbrev number_at : ℕ → Nested 1 → ℕ
number_at i s = number_in (get_or s i (number 0))
  where
    number_in : Nested 0 → ℕ
    number_in (number n) = n
    number_in (flag b) = 0

abbrev flag_at : ℕ → Nested 1 → Bool
flag_at i s = flag_in (get_or s i (flag false))
  where
    flag_in : Nested 0 → Bool
    flag_in (number n) = false
    flag_in (flag b) = b

-- the struct that stands alone at a place, and the array there
abbrev array_at : ℕ → Nested 3 → Nested 2
array_at i w = get_or w i []

abbrev alone_at : ℕ → Nested 3 → Nested 1
alone_at i w = get_or (array_at i w) 0 []

-- an array is made again where each of its structs is
map_back : {A B : Type 0} (f : A → B) (g : B → A) → ((a : A) → g (f a) ≡ a) → (l : List A) → map g (map f l) ≡ l
map_back f g h [] = refl
map_back f g h (a ∷ l) = let p : g (f a) ≡ a = h a in let q : map g (map f l) ≡ l = map_back f g h l in cc

abbrev numbers_from : Nested 1 → List ℕ
numbers_from s = map (λ (f : Nested 0). number_at 0 (f ∷ [])) s

numbers-back : (l : List ℕ) → numbers_from (map number l) ≡ l
numbers-back = map_back _ _ λ n. refl

abbrev flags_from : Nested 1 → List Bool
flags_from s = map (λ (f : Nested 0). flag_at 0 (f ∷ [])) s

flags-back : (l : List Bool) → flags_from (map flag l) ≡ l
flags-back = map_back _ _ λ b. refl

-- ## What `nch::read` answers

abbrev description_from : Nested 1 → Description
description_from s = record { channel = number_at 0 s; hopping = flag_at 1 s; shortlist = flag_at 2 s; length = number_at 3 s; frequencies = number_at 4 s }

abbrev call_from_of : Nested 1 → Call
call_from_of s =
    record {
      reference = number_at 0 s;
      vgcs = flag_at 1 s;
      acknowledged = flag_at 2 s;
      priority = number_at 3 s;
      cipher = number_at 4 s;
      hasDescription = flag_at 5 s;
      description = description_from (drop 6 s);
    }

calls_back : (l : List Call) → map call_from_of (map of_call l) ≡ l
calls_back = map_back _ _ λ c. refl

abbrev reduced_from : Nested 1 → Reduced
reduced_from s = record { reference = number_at 0 s; vgcs = flag_at 1 s }

reduced-back : (l : List Reduced) → map reduced_from (map of_reduced l) ≡ l
reduced-back = map_back _ _ λ r. refl

abbrev random_from : Nested 1 → Random
random_from s = record { segment = flag_at 0 s; hasRandom = flag_at 1 s; rand = number_at 2 s }

randoms-back : (l : List Random) → map random_from (map of_random l) ≡ l
randoms-back = map_back _ _ λ r. refl

abbrev release6_from : Nested 1 → Nested 2 → Nested 2 → Release6
release6_from s reduced randoms =
    record {
      hasRelease = flag_at 0 s;
      hasCount = flag_at 1 s;
      cellcount = number_at 2 s;
      reducedcount = number_at 3 s;
      reduced = map reduced_from reduced;
      randomcount = number_at 4 s;
      randoms = map random_from randoms;
    }

abbrev release7_from : Nested 1 → Release7
release7_from s =
    record {
      hasRelease = flag_at 0 s;
      markcount = number_at 1 s;
      marks = flags_from (drop 12 s);
      hasUplink = flag_at 2 s;
      uplink = flag_at 3 s;
      hasAmr = flag_at 4 s;
      hasFullrate = flag_at 5 s;
      fullrate = number_at 6 s;
      hasHalfrate = flag_at 7 s;
      halfrate = number_at 8 s;
      hasSms = flag_at 9 s;
      confidential = flag_at 10 s;
      private = flag_at 11 s;
    }

abbrev reading_from : Nested 3 → Reading
reading_from w =
    record {
      refusal = record { number = number_at 0 (alone_at 0 w); bit = number_at 1 (alone_at 0 w) };
      used = number_at 2 (alone_at 0 w);
      «record» =
          record {
            hasNln = flag_at 0 (alone_at 1 w);
            nln = number_at 1 (alone_at 1 w);
            callcount = number_at 2 (alone_at 1 w);
            calls = map call_from_of (array_at 2 w);
            release6 = release6_from (alone_at 3 w) (array_at 4 w) (array_at 5 w);
            release7 = release7_from (alone_at 6 w);
          };
    }

reading_back : (r : Reading) → reading_from (of_reading r) ≡ r
reading_back r = simp (calls_back, reduced-back, randoms-back, flags-back)

-- ## What an event is answered

abbrev common_from : Nested 1 → Common
common_from s =
    record {
      hasCount = flag_at 0 s;
      cellcount = number_at 1 s;
      b22 = flag_at 2 s;
      hasUplink = flag_at 3 s;
      uplink = flag_at 4 s;
      hasAmr = flag_at 5 s;
      hasFullrate = flag_at 6 s;
      fullrate = number_at 7 s;
      hasHalfrate = flag_at 8 s;
      halfrate = number_at 9 s;
      hasSms = flag_at 10 s;
      confidential = flag_at 11 s;
      private = flag_at 12 s;
    }

abbrev record_from : Nested 1 → Record
record_from s =
    record {
      full = flag_at 0 s;
      call = call_from_of (drop 6 s);
      hasSegment = flag_at 1 s;
      segment = flag_at 2 s;
      hasRandom = flag_at 3 s;
      rand = number_at 4 s;
      emergency = flag_at 5 s;
      common = common_from (drop 17 s);
    }

abbrev told_from : Nested 1 → Told
told_from s = record { key = number_at 0 s; number = number_at 1 s; follow = number_at 2 s; kept = number_at 3 s; «record» = record_from (drop 4 s) }

tolds_back : (l : List Told) → map told_from (map of_told l) ≡ l
tolds_back = map_back _ _ λ t. refl

abbrev slot_from : Nested 1 → Slot
slot_from s = record { half = number_at 0 s; since = number_at 1 s; «record» = record_from (drop 2 s) }

slots_back : (l : List Slot) → map slot_from (map of_slot l) ≡ l
slots_back = map_back _ _ λ s. refl

abbrev paged_from : Nested 1 → Paged
paged_from s =
    record {
      there = flag_at 0 s;
      page =
          record {
            identityLength = number_at 1 s;
            identityFirst = number_at 2 s;
            identityRest = number_at 3 s;
            channelFirst = number_at 4 s;
            hasPriority = flag_at 5 s;
            priority = number_at 6 s;
          };
      hasCause = flag_at 7 s;
      cause = flag_at 8 s;
    }

abbrev answer_from : Nested 3 → Answer
answer_from w =
    record {
      refusal = record { number = number_at 0 (alone_at 0 w); bit = number_at 1 (alone_at 0 w) };
      expired = number_at 2 (alone_at 0 w);
      dropped = number_at 3 (alone_at 0 w);
      count = number_at 4 (alone_at 0 w);
      entries = map told_from (array_at 1 w);
      paged = paged_from (alone_at 2 w);
      receiver =
          record {
            slots = map slot_from (array_at 3 w);
            keys = numbers_from (alone_at 4 w);
            sets = numbers_from (alone_at 6 w);
            keycount = number_at 5 (alone_at 5 w);
            tick = number_at 0 (alone_at 5 w);
            t3206 = number_at 1 (alone_at 5 w);
            t3208 = number_at 2 (alone_at 5 w);
            t3210 = number_at 3 (alone_at 5 w);
            cell = record { nln = number_at 4 (alone_at 5 w); count = number_at 6 (alone_at 5 w); bit = number_at 7 (alone_at 5 w) };
          };
    }

answer_back : (a : Answer) → answer_from (of_answer a) ≡ a
answer_back a = simp (tolds_back, slots_back, numbers-back)

-- ## What `gcc::cause::read` and `gcc::digits::read` answer

abbrev meaning_from : Nested 1 → Meaning
meaning_from [] = Nothing
meaning_from (number n ∷ s) = Specific n
meaning_from (flag b ∷ s) = Unspecific

meaning_back : (m : Meaning) → meaning_from (of_meaning m) ≡ m
meaning_back Nothing = refl
meaning_back (Specific n) = refl
meaning_back Unspecific = refl

abbrev cause_from : Nested 3 → CauseReading
cause_from w =
    record {
      refusal = number_at 0 (alone_at 0 w);
      meaning = meaning_from (alone_at 1 w);
      cause =
          record {
            count = number_at 1 (alone_at 0 w);
            septets = numbers_from (alone_at 2 w);
            size = number_at 2 (alone_at 0 w);
            diagnostics = numbers_from (alone_at 3 w);
          };
    }

cause-back : (r : CauseReading) → cause_from (of_cause r) ≡ r
cause-back r = simp (meaning_back, numbers-back)

abbrev digits_from : Nested 3 → DigitsReading
digits_from w = record { refusal = number_at 0 (alone_at 0 w); digits = numbers_from (alone_at 1 w) }

digits-back : (r : DigitsReading) → digits_from (of_digits r) ≡ r
digits-back r = simp numbers-back

-- ## Answers that pass the test are equal

equal : {A : Type 0} (f : A → Nested 3) (g : Nested 3 → A) → ((a : A) → g (f a) ≡ a) → (a b : A) → same (f a) (f b) ≡ true → a ≡ b
equal f g h a b e = sym (h a) ∙ ap g (same-sound (f a) (f b) e) ∙ h b

pub reading_equal : (a b : Reading) → same (of_reading a) (of_reading b) ≡ true → a ≡ b
reading_equal = equal of_reading reading_from reading_back

pub answer-equal : (a b : Answer) → same (of_answer a) (of_answer b) ≡ true → a ≡ b
answer-equal = equal of_answer answer_from answer_back

pub cause-equal : (a b : CauseReading) → same (of_cause a) (of_cause b) ≡ true → a ≡ b
cause-equal = equal of_cause cause_from cause-back

pub digits-equal : (a b : DigitsReading) → same (of_digits a) (of_digits b) ≡ true → a ≡ b
digits-equal = equal of_digits digits_from digits-back

-- What the writer of NT/N Rest Octets refuses, in document 01's order, and the octets that it leaves. Assumes nothing.
use Rattle.std.specs.Prelude.{List, [], ◌∷◌, ◌++◌, Bool, true, not, ℕ, zero, suc, ◌+◌, ◌^◌, length, take, replicate, leb, ltb, eqb}
use Rattle.bits.specs.Field.{both, pick, first_due}
use Rattle.csn1.specs.Format.{put_bits}
use Rattle.csn1.specs.Write.{flagged_right, behind}
use Rattle.call.specs.Call.{ciphered}
use Rattle.call.specs.declared.Call.{Call}
use Rattle.call.specs.Write.{call_in_range, call_is_zero, call_is_low, call_length_right, call_hops_right}
use Rattle.nch.specs.declared.Reduced.{Reduced}
use Rattle.nch.specs.declared.Random.{Random}
use Rattle.nch.specs.declared.Release6.{Release6}
use Rattle.nch.specs.declared.Release7.{Release7}
use Rattle.nch.specs.declared.Notification.{Notification}
use Rattle.nch.specs.Places.{most_calls, most_reduceds, most_randoms, most_marks}
use Rattle.nch.specs.Octets.{count, notification}
use Rattle.nch.specs.Told.{value_of}

-- ## Lists in places

-- the first n pass the test, and the places behind them are unused
unfoldable pub places_right : {A : Type 0} → (A → Bool) → (A → Bool) → ℕ → List A → Bool
places_right good zeroed n [] = true
places_right good zeroed zero (a ∷ l) = both (zeroed a) (places_right good zeroed zero l)
places_right good zeroed (suc n) (a ∷ l) = both (good a) (places_right good zeroed n l)

-- all of a list pass the test
unfoldable pub all : {A : Type 0} → (A → Bool) → List A → Bool
all t [] = true
all t (a ∷ l) = both (t a) (all t l)

-- ## 12: a field out of its range, or anything but zero in an absent part or an unused place

abbrev pub reduced_in_range : Reduced → Bool
reduced_in_range r = ltb r.reference (2 ^ 27)

abbrev pub reduced_is_zero : Reduced → Bool
reduced_is_zero r = both (eqb r.reference 0) (not r.vgcs)

abbrev pub random_in_range : Random → Bool
random_in_range r = flagged_right r.hasRandom r.rand (2 ^ 36)

abbrev pub random_is_zero : Random → Bool
random_is_zero r = both (not r.segment) (both (not r.hasRandom) (eqb r.rand 0))

-- a mark in use may be either
abbrev pub any_mark : Bool → Bool
any_mark b = true

abbrev pub release6_places : Release6 → Bool
release6_places r =
    both (flagged_right r.hasCount r.cellcount 4)
    (both (places_right reduced_in_range reduced_is_zero r.reducedcount r.reduced) (places_right random_in_range random_is_zero r.randomcount r.randoms))

-- an absent release has nothing in it
unfoldable pub release6_in_range : Release6 → Bool
release6_in_range r =
    both (leb r.reducedcount most_reduceds)
    (both (leb r.randomcount most_randoms)
    (both (pick r.hasRelease true (both (not r.hasCount) (both (eqb r.reducedcount 0) (eqb r.randomcount 0)))) (release6_places r)))

abbrev pub amr_in_range : Release7 → Bool
amr_in_range r =
    both (behind r.hasAmr r.hasFullrate)
    (both (behind r.hasAmr r.hasHalfrate) (both (flagged_right r.hasFullrate r.fullrate 16) (flagged_right r.hasHalfrate r.halfrate 16)))

abbrev pub flags_in_range : Release7 → Bool
flags_in_range r = both (behind r.hasUplink r.uplink) (both (amr_in_range r) (both (behind r.hasSms r.confidential) (behind r.hasSms r.private)))

abbrev pub release7_places : Release7 → Bool
release7_places r = both (places_right any_mark not r.markcount r.marks) (flags_in_range r)

unfoldable pub release7_in_range : Release7 → Bool
release7_in_range r =
    both (leb r.markcount most_marks)
    (both (pick r.hasRelease true (both (eqb r.markcount 0) (both (not r.hasUplink) (both (not r.hasAmr) (not r.hasSms))))) (release7_places r))

unfoldable pub in_range : Notification → Bool
in_range m =
    both (leb m.callcount most_calls)
    (both (flagged_right m.hasNln m.nln 4)
    (both (places_right call_in_range call_is_zero m.callcount m.calls) (both (release6_in_range m.release6) (release7_in_range m.release7))))

-- ## 4, 3, 5: over the calls and reduced references in use

abbrev pub calls_of : Notification → List Call
calls_of m = take m.callcount m.calls

abbrev pub reduced_is_low : Reduced → Bool
reduced_is_low r = leb r.reference 99999999

unfoldable pub references_low : Notification → Bool
references_low m = both (all call_is_low (calls_of m)) (all reduced_is_low (take m.release6.reducedcount m.release6.reduced))

unfoldable pub lengths_right : Notification → Bool
lengths_right m = all call_length_right (calls_of m)

unfoldable pub hops_right : Notification → Bool
hops_right m = all call_hops_right (calls_of m)

-- ## 6 and 7: random entries and marks that belong to nothing

unfoldable pub randoms_owned : Notification → Bool
randoms_owned m = leb m.release6.randomcount (count ciphered (calls_of m) + m.release6.reducedcount)

abbrev pub is_described : Call → Bool
is_described c = c.hasDescription

unfoldable pub marks_owned : Notification → Bool
marks_owned m = leb m.release7.markcount (count is_described (calls_of m))

-- ## The first of these that is due

-- each test with the number of its refusal, in document 01's order
abbrev pub record_tests : Notification → List (Bool × ℕ)
record_tests m =
    (in_range m, 12)
    ∷ (references_low m, 4)
    ∷ (lengths_right m, 3)
    ∷ (hops_right m, 5)
    ∷ (randoms_owned m, 6)
    ∷ (marks_owned m, 7)
    ∷ []

unfoldable pub record_refusal : Notification → ℕ
record_refusal m = first_due (record_tests m)

-- ## 11: the written form takes over 160 bits, or the buffer is not 20 octets

-- the bits of a record's written form, padding left out
unfoldable pub form : Notification → List ℕ
form m = notification.bits 160 0 (value_of m)

abbrev pub form_fits : Notification → ℕ → Bool
form_fits m n = both (leb (length (form m)) 160) (eqb n 20)

-- ## The answer

-- 11 is the last test
abbrev pub write_tests : Notification → ℕ → List (Bool × ℕ)
write_tests m n = record_tests m ++ ((form_fits m n, 11) ∷ [])

-- the number of the refusal, and 0 where the record is written into a buffer of n octets
unfoldable pub write_number : Notification → ℕ → ℕ
write_number m n = first_due (write_tests m n)

-- the written form over twenty octets of padding
unfoldable pub written : Notification → List ℕ
written m = put_bits (replicate 20 43) 0 (form m)

-- what a buffer b then holds: where the record was refused, what it held
unfoldable pub after_write : Notification → List ℕ → List ℕ
after_write m b = pick (eqb (write_number m (length b)) 0) (written m) b

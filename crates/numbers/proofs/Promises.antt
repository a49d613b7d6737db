-- The promises of specs/Promises, each from the laws of numbers and of records. Assumes nothing.
use mathlib.Core.Path.{◌≡◌, refl, ap, ◌∙◌}
use mathlib.Core.List.{List, ◌∷◌}
use Prim.Native.Nat.{ℕ}
use native.Mathlib.Omega.{arith}
use lib.Dec.{eqb}
use lib.ListN.{length}
use borrow.Author.Tests.{eqb-true, eq-eqb}
use Rattle.csn1.proofs.Telling.{picked}
use Rattle.nch.specs.declared.Reading.{Reading}
use Rattle.nch.specs.Told.{Shaped, read_of}
use Rattle.facch.specs.Message as facch-message
use Rattle.nch.specs.Write as records
use Rattle.nch.proofs.Promises.{reading_gives_back_what_was_written, writing_gives_back_what_was_read}
use Rattle.nch.specs.CallNumbers.{description_by, call_by}
use Rattle.numbers.specs.FacchNumbers as facch-numbers
use Rattle.nch.specs.Places.{all_length}
use Rattle.nch.specs.NotificationNumbers.{fields_hold, Fits, numbers_of, reduced_by, random_from, release6_by, release7_by, record_by, record_from, read_numbers, write_code, after_write}
use Rattle.numbers.specs.Promises.{ARecordIsItsNumbers, NumbersAreTheirRecord, ReadingGivesTheNumbersBack, WritingGivesTheOctetsBack}
use Rattle.numbers.specs.Promises.{TheFirstNumberIsNotLookedAt, AllHaveTheirPlaces, ARefusedReadingIsAllZeros, AResultTellsNumberAndBit}
use Rattle.nch.proofs.Clips.{told_by_result as nch-told-by-result}
use Rattle.facch.proofs.Clips.{told_by_result as facch-told-by-result}
use Rattle.numbers.proofs.FacchRuns as facch
use Rattle.nch.proofs.NotificationRuns.{length-all, length-read}
use Rattle.nch.proofs.NotificationBack.{record_back, numbers-back, refused-zeros}
use Rattle.nch.proofs.InLimits.{read_fits, record_read, used-read}

pub a_record_is_its_numbers : ARecordIsItsNumbers
a_record_is_its_numbers = record_back

pub numbers_are_their_record : NumbersAreTheirRecord
numbers_are_their_record = numbers-back

pub all_have_their_places : AllHaveTheirPlaces
all_have_their_places = (length-all, facch.length-all)

pub a_refused_reading_is_all_zeros : ARefusedReadingIsAllZeros
unfolding facch-numbers.read_numbers
a_refused_reading_is_all_zeros = (refused-zeros, λ s h. facch.refused-zeros (facch-message.read_octets s) h)

-- the numbers were accepted
record Accepted (ns : List ℕ) : Type 0 where
  fitting : Fits ns
  exact : length ns ≡ all_length
  right : records.write_number (record_from ns) 20 ≡ 0

accepted : (ns : List ℕ) → write_code ns 20 ≡ 0 → Accepted ns
unfolding write_code records.write_number
accepted ns e =
    let p = picked (eqb (length ns) all_length) _ 13 (omega arith) e in
    let q = picked (fields_hold ns) _ 12 (omega arith) p.1 in
    let n = eqb-true (length ns) all_length p.0 in
    record { fitting = record { long = omega arith; held = q.0 }; exact = n; right = q.1 }

shaped : (ns : List ℕ) → Shaped (record_from ns)
unfolding record_by release6_by release7_by
shaped ns = record { calls = refl; reduced = refl; randoms = refl; marks = refl }

left_behind : (ns b : List ℕ) → length b ≡ 20 → Accepted ns → after_write ns b ≡ records.written (record_from ns)
unfolding after_write records.after_write
left_behind ns b n a =
    rw (eq-eqb (length ns) all_length a.exact, a.fitting.held, n, eq-eqb (records.write_number (record_from ns) 20) 0 a.right)

pub reading_gives_the_numbers_back : ReadingGivesTheNumbersBack
unfolding read_numbers
reading_gives_the_numbers_back ns b n e =
    let a = accepted ns e in
    rw (left_behind ns b n a)
    (ap (λ (r : Reading). r.used ∷ numbers_of r.«record») (reading_gives_back_what_was_written (record_from ns) (shaped ns) a.right)
    ∙ ap (λ (l : List ℕ). length (records.form (record_from ns)) ∷ l) (numbers-back ns a.exact a.fitting))

-- ## Writing the array that was read

read-accepted : (s : List ℕ) → (read_of s).refusal.number ≡ 0 → write_code (read_numbers s) 20 ≡ 0
unfolding write_code records.write_number
read-accepted s h =
    rw (eq-eqb (length (read_numbers s)) all_length (length-read s), (read_fits s).held, record_read s) (writing_gives_back_what_was_read s h).accepted

pub writing_gives_the_octets_back : WritingGivesTheOctetsBack
writing_gives_the_octets_back s b h n =
    let w = writing_gives_back_what_was_read s h in
    let e = read-accepted s h in
    let o : after_write (read_numbers s) b ≡ records.written (read_of s).«record» =
    left_behind (read_numbers s) b n (accepted (read_numbers s) e) ∙ ap records.written (record_read s) in
    record { accepted = e; same = rw (o, used-read s) w.same; rest = rw (o, used-read s) w.rest }

pub the_first_number_is_not_looked_at : TheFirstNumberIsNotLookedAt
unfolding write_code after_write record_by release6_by release7_by call_by description_by reduced_by random_from
the_first_number_is_not_looked_at x y n ns b = (refl, refl)

pub a_result_tells_number_and_bit : AResultTellsNumberAndBit
a_result_tells_number_and_bit = (nch-told-by-result, facch-told-by-result)

-- Listed inputs as numbers, computed. Assumes nothing.
use mathlib.Core.Path.{◌≡◌, refl, sym, ap, ◌∙◌}
use mathlib.Core.List.{List, ◌∷◌}
use Prim.Native.Nat.{ℕ}
use lib.ListN.{replicate}
use Rattle.bits.specs.Field.{bit, field, with_bit, set_bit}
use Rattle.csn1.specs.Format.{num_bits, read_items, pad_bit, put_bits}
use Rattle.call.specs.Call.{group_call}
use Rattle.call.specs.Write as calls
use Rattle.facch.specs.declared.Notification.{Notification}
use Rattle.facch.specs.declared.Reading.{Reading}
use Rattle.facch.specs.Message as facch
use Rattle.facch.specs.Told.{read_of}
use Rattle.facch.specs.Promises.{paged_tmsi}
use Rattle.facch.proofs.Promises.{listed_records}
use Rattle.facch_write.specs.Write as facch-records
use Rattle.facch_write.proofs.Promises.{listed_forms}
use Rattle.nch.specs.Octets.{notification}
use Rattle.nch.specs.Write as records
use Rattle.arrays.specs.Limits.{within}
use Rattle.arrays.specs.Runs.{each}
use Rattle.nch.specs.CallNumbers.{call_numbers, description_by, call_by}
use Rattle.numbers.specs.FacchNumbers as facch-numbers
use Rattle.nch.specs.NotificationNumbers.{reduced_numbers, random_numbers, mark_numbers, release6_numbers, parts_numbers, release7_numbers, numbers_of, read_numbers}
use Rattle.nch.specs.NotificationNumbers.{reduced_by, random_from, release6_by, release7_by, record_by, most, write_code, after_write}
use Rattle.numbers.proofs.FacchAgain.{accepted, left_behind, writing_gives_the_facch_octets_back}
use Rattle.numbers.specs.Promises.{first_parts, first_numbers, every_facch_part, every_facch_number, uplink_part, uplink_numbers, absent_parts}
use Rattle.numbers.specs.Promises.{absent_numbers, end_parts, end_numbers, paged_parts, paged_numbers, paged_written, EveryListedInputGivesItsNumbers}

facch-read : facch-numbers.read_numbers every_facch_part ≡ 183 ∷ every_facch_number
unfolding facch.notification group_call field bit pad_bit call_numbers facch-numbers.numbers_of facch-numbers.read_numbers
facch-read = refl

facch-uplink : facch-numbers.read_numbers uplink_part ≡ 101 ∷ uplink_numbers
unfolding facch.notification group_call field bit pad_bit call_numbers facch-numbers.numbers_of facch-numbers.read_numbers
facch-uplink = refl

facch-absent : facch-numbers.read_numbers absent_parts ≡ 48 ∷ absent_numbers
unfolding facch.notification group_call field bit pad_bit call_numbers facch-numbers.numbers_of facch-numbers.read_numbers
facch-absent = refl

facch-end : facch-numbers.read_numbers end_parts ≡ 136 ∷ end_numbers
unfolding facch.notification group_call field bit pad_bit call_numbers facch-numbers.numbers_of facch-numbers.read_numbers
facch-end = refl

facch-paged : facch-numbers.read_numbers paged_parts ≡ 69 ∷ paged_numbers
unfolding facch.notification group_call field bit pad_bit call_numbers facch-numbers.numbers_of facch-numbers.read_numbers
facch-paged = refl

facch-read_so : (read_of paged_parts).refusal.number ≡ 0
facch-read_so = ap (λ (r : Reading). r.refusal.number) listed_records.paged

facch-accepted : facch-numbers.write_code (69 ∷ paged_numbers) 9 ≡ 0
facch-accepted =
    ap (λ (ns : List ℕ). facch-numbers.write_code ns 9) (sym facch-paged)
    ∙ (writing_gives_the_facch_octets_back paged_parts (replicate 9 0xff) facch-read_so refl).accepted

facch_record : facch-numbers.record_from (69 ∷ paged_numbers) ≡ paged_tmsi.«record»
unfolding facch-numbers.record_from facch-numbers.page_from facch-numbers.release6_from facch-numbers.release7_from call_by description_by
facch_record = refl

facch-written : facch-numbers.after_write (69 ∷ paged_numbers) (replicate 9 0xff) ≡ paged_written
facch-written =
    left_behind (69 ∷ paged_numbers) (replicate 9 0xff) (accepted (69 ∷ paged_numbers) 9 facch-accepted)
    ∙ ap (λ (m : Notification). facch-records.written m 9) facch_record
    ∙ listed_forms.nine

facch-flagged : facch-numbers.write_code (0 ∷ 2 ∷ replicate 28 0) 9 ≡ 12
unfolding facch-numbers.write_code within facch-numbers.most
facch-flagged = refl

facch-few : facch-numbers.write_code paged_numbers 9 ≡ 13
unfolding facch-numbers.write_code
facch-few = refl

nch-accepted : write_code (140 ∷ first_numbers) 20 ≡ 0
unfolding write_code within most call_by description_by reduced_by random_from release6_by release7_by record_by records.write_number records.record_refusal records.in_range
    records.places_right records.all records.release6_in_range records.release7_in_range records.references_low records.lengths_right records.hops_right records.randoms_owned
    records.marks_owned calls.call_in_range calls.call_is_zero calls.call_is_low calls.call_length_right calls.call_hops_right records.form notification group_call num_bits pad_bit
nch-accepted = refl

nch-written : after_write (140 ∷ first_numbers) (replicate 20 0) ≡ first_parts
unfolding after_write within most call_by description_by reduced_by random_from release6_by release7_by record_by records.after_write records.write_number records.record_refusal
    records.in_range records.places_right records.all records.release6_in_range records.release7_in_range records.references_low records.lengths_right records.hops_right
    records.randoms_owned records.marks_owned calls.call_in_range calls.call_is_zero calls.call_is_low calls.call_length_right calls.call_hops_right records.form records.written
    notification group_call num_bits pad_bit put_bits set_bit with_bit
nch-written = refl

pub every_listed_input_gives_its_numbers : EveryListedInputGivesItsNumbers
unfolding notification group_call read_items field bit pad_bit each call_numbers reduced_numbers random_numbers mark_numbers release6_numbers parts_numbers release7_numbers numbers_of
    read_numbers write_code within most
every_listed_input_gives_its_numbers =
    record {
      nothing = refl;
      numbered = refl;
      refused = refl;
      first = refl;
      second = refl;
      third = refl;
      fourth = refl;
      facch = facch-read;
      facch-uplink = facch-uplink;
      facch-absent = facch-absent;
      facch-end = facch-end;
      facch-paged = facch-paged;
      accepted = nch-accepted;
      written = nch-written;
      flagged = refl;
      few = refl;
      facch-accepted = facch-accepted;
      facch-written = facch-written;
      facch-flagged = facch-flagged;
      facch-few = facch-few;
    }

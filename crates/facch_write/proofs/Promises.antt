-- The promises of specs/Promises, each from the laws of records and of bits. Assumes nothing.
use mathlib.Core.Path.{◌≡◌, refl, ◌∙◌}
use mathlib.Core.Bool.{false}
use native.Mathlib.Omega.{arith}
use lib.ListN.{length}
use Rattle.bits.specs.Field.{with_bit, set_bit}
use Rattle.csn1.specs.Format.{num_bits, pad_bit, put_bits}
use Rattle.call.specs.Write.{call_is_zero, call_is_low, call_length_right, call_hops_right}
use Rattle.facch.specs.Message.{notification}
use Rattle.facch.specs.Told.{record_of, read_of}
use Rattle.facch.specs.Promises.{paged_tmsi}
use Rattle.facch_write.specs.Write.{notified_in_range, page_in_range, release6_in_range, release7_in_range, in_range, identity_right, record_refusal, form, form_fits, write_number, written}
use Rattle.facch_write.specs.Promises.{ReadingGivesBackWhatWasWritten, WritingGivesBackWhatWasRead, BitsUsedAreTheWrittenForm}
use Rattle.facch_write.specs.Promises.{EveryRightRecordIsWritten, EveryMessageCanBeWritten, ListedForms}
use Rattle.facch_write.proofs.Records.{one_more, right}
use Rattle.facch_write.proofs.Round.{length-written, written_padding, was_accepted, accepting, written_read, again-used, again, again-first, again-same, message-written}

pub reading_gives_back_what_was_written : ReadingGivesBackWhatWasWritten
reading_gives_back_what_was_written m n e = written_read m n (was_accepted m n e)

pub writing_gives_back_what_was_read : WritingGivesBackWhatWasRead
writing_gives_back_what_was_read s z =
    let m = (read_of s).«record» in
    let n = length s in
    record {
      accepted = accepting m n (again s z);
      as_long = length-written m n;
      first = again-first s z;
      same = again-same s z;
      rest = λ k l h. written_padding m n k (omega (arith, again-used s z)) h;
    }

pub bits_used_are_the_written_form : BitsUsedAreTheWrittenForm
bits_used_are_the_written_form s z = again-used s z

pub every_right_record_is_written : EveryRightRecordIsWritten
unfolding record_refusal
every_right_record_is_written m n a b c d e two most room =
    let r : record_refusal m ≡ 0 = rw (a, b, c, d, e) in
    accepting m n (record { right = right m r; two = two; most = most; room = room })

pub every_message_can_be_written : EveryMessageCanBeWritten
every_message_can_be_written v n f two most room = accepting (record_of v) n (message-written v n f two most room)

-- no test of the record is due, and its form has 69 bits
page_right : record_refusal paged_tmsi.«record» ≡ 0
unfolding record_refusal in_range notified_in_range page_in_range release6_in_range release7_in_range identity_right call_is_zero call_is_low call_length_right call_hops_right
page_right = refl

page_long : form_fits paged_tmsi.«record» 8 ≡ false
unfolding form notification num_bits pad_bit
page_long = refl

page_refused : write_number paged_tmsi.«record» 8 ≡ 11
page_refused = one_more paged_tmsi.«record» 8 ∙ rw (page_right, page_long)

pub listed_forms : ListedForms
unfolding written form notification num_bits pad_bit put_bits set_bit with_bit
listed_forms = record { nine = refl; ten = refl; eight = page_refused }

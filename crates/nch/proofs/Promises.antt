-- The promises of specs/Promises, each from the laws of records and of bits. Assumes nothing.
use native.Mathlib.Omega.{arith}
use Rattle.csn1.proofs.Holding.{holds_same}
use Rattle.nch.specs.declared.Notification.{Notification}
use Rattle.nch.specs.Told.{read_of}
use Rattle.nch.specs.Write.{form, written}
use Rattle.nch.specs.Promises.{ReadingGivesBackWhatWasWritten, WritingGivesBackWhatWasRead, BitsUsedAreTheWrittenForm, PlacesAreEnough}
use Rattle.nch.proofs.Round.{accepted, accepting, length-written, written-holds, written_padding, written_read, read-accepted, again-right, again-used, again-short, again-holds}

pub reading_gives_back_what_was_written : ReadingGivesBackWhatWasWritten
reading_gives_back_what_was_written m s e = written_read m s (accepted m e).0 (accepted m e).1

pub writing_gives_back_what_was_read : WritingGivesBackWhatWasRead
writing_gives_back_what_was_read s z =
    let r = read_of s in
    let m : Notification = r.«record» in
    let a = read-accepted s z in
    let u = again-used s r a in
    let h = again-short s r a in
    record {
      accepted = accepting m (again-right s r a) h;
      same = λ k l. holds_same (written m) s 0 (form m) (written-holds m h) (again-holds s r a) k (omega arith) (omega arith);
      rest = λ k l n. written_padding m k (omega arith) (omega (arith, length-written m));
    }

pub bits_used_are_the_written_form : BitsUsedAreTheWrittenForm
bits_used_are_the_written_form s z = again-used s (read_of s) (read-accepted s z)

pub places_are_enough : PlacesAreEnough
places_are_enough s z =
    let t = again-right s (read_of s) (read-accepted s z) in
    (t.few, t.six.few)

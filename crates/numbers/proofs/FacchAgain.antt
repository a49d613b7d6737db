-- Arrays of a NOTIFICATION/FACCH: what was written is read back, and what was read is written again. Assumes nothing.
use mathlib.Core.Path.{◌≡◌, refl, ap, ◌∙◌}
use mathlib.Core.List.{List, ◌∷◌}
use mathlib.Core.Bool.{true}
use Prim.Native.Nat.{ℕ}
use native.Mathlib.Omega.{arith}
use lib.Dec.{eqb}
use lib.ListN.{length}
use borrow.Author.Tests.{eqb-true, eq-eqb}
use Rattle.csn1.proofs.Telling.{picked}
use Rattle.facch.specs.declared.Reading.{Reading}
use Rattle.facch.specs.Told.{read_of}
use Rattle.facch_write.specs.Write as records
use Rattle.facch_write.proofs.Promises.{reading_gives_back_what_was_written, writing_gives_back_what_was_read}
use Rattle.nch.specs.CallNumbers.{description_by, call_by}
use Rattle.numbers.specs.FacchPlaces.{all_length}
use Rattle.numbers.specs.FacchNumbers.{numbers_of, read_numbers, page_from, release6_from, release7_from, record_from, fields_hold, write_code, after_write}
use Rattle.numbers.specs.Promises.{ReadingGivesTheFacchNumbersBack, WritingGivesTheFacchOctetsBack, TheFirstFacchNumberIsNotLookedAt}
use Rattle.numbers.proofs.FacchRuns.{length-read}
use Rattle.numbers.proofs.FacchBack.{numbers_are_their_facch_record}
use Rattle.numbers.proofs.FacchInLimits.{read_held, record_read, used-read}

-- the numbers were accepted
pub record Accepted (ns : List ℕ) (n : ℕ) : Type 0 where
  pub held : fields_hold ns ≡ true
  pub exact : length ns ≡ all_length
  pub right : records.write_number (record_from ns) n ≡ 0

pub accepted : (ns : List ℕ) (n : ℕ) → write_code ns n ≡ 0 → Accepted ns n
unfolding write_code records.write_number
accepted ns n e =
    let p = picked (eqb (length ns) all_length) _ 13 (omega arith) e in
    let q = picked (fields_hold ns) _ 12 (omega arith) p.1 in
    record { held = q.0; exact = eqb-true (length ns) all_length p.0; right = q.1 }

pub left_behind : (ns b : List ℕ) → Accepted ns (length b) → after_write ns b ≡ records.written (record_from ns) (length b)
unfolding after_write records.after_write
left_behind ns b a =
    rw (eq-eqb (length ns) all_length a.exact, a.held, eq-eqb (records.write_number (record_from ns) (length b)) 0 a.right)

pub reading_gives_the_facch_numbers_back : ReadingGivesTheFacchNumbersBack
unfolding read_numbers
reading_gives_the_facch_numbers_back ns b e =
    let a = accepted ns (length b) e in
    rw (left_behind ns b a)
    (ap (λ (r : Reading). r.used ∷ numbers_of r.«record») (reading_gives_back_what_was_written (record_from ns) (length b) a.right)
    ∙ ap (λ (l : List ℕ). length (records.form (record_from ns) (length b)) ∷ l) (numbers_are_their_facch_record ns a.exact a.held))

-- ## Writing the array that was read

read-accepted : (s : List ℕ) → (read_of s).refusal.number ≡ 0 → write_code (read_numbers s) (length s) ≡ 0
unfolding write_code records.write_number
read-accepted s z =
    rw (eq-eqb (length (read_numbers s)) all_length (length-read s), read_held s z, record_read s) (writing_gives_back_what_was_read s z).accepted

pub writing_gives_the_facch_octets_back : WritingGivesTheFacchOctetsBack
writing_gives_the_facch_octets_back s b z n =
    let w = writing_gives_back_what_was_read s z in
    let e = ap (write_code (read_numbers s)) n ∙ read-accepted s z in
    let o : after_write (read_numbers s) b ≡ records.written (read_of s).«record» (length s) =
    left_behind (read_numbers s) b (accepted (read_numbers s) (length b) e) ∙ rw (record_read s, n) in
    record {
      accepted = e;
      as_long = rw o w.as_long;
      first = rw o w.first;
      same = rw (o, used-read s) w.same;
      rest = rw (o, used-read s) w.rest;
    }

pub the_first_facch_number_is_not_looked_at : TheFirstFacchNumberIsNotLookedAt
unfolding write_code after_write record_from page_from release6_from release7_from call_by description_by
the_first_facch_number_is_not_looked_at x y n ns b = (refl, refl)

-- The promises of specs/Promises: the test of the table is computed, and what passes is equal. Assumes nothing.
use mathlib.Core.Path.{◌≡◌, refl}
use mathlib.Core.List.{List, [], ◌∷◌}
use mathlib.Core.Bool.{true, not}
use Prim.Native.Nat.{ℕ}
use lib.ListN.{length}
use lib.Dec.{eqb}
use lib.Text.{eqt→eq}
use borrow.Author.Tests.{eqb-true, not-true}
use Rattle.bits.proofs.Answers.{both_true}
use Rattle.bits.specs.Field.{bit, field}
use Rattle.csn1.specs.Format.{read_items, pad_bit, ground}
use Rattle.nch.specs.Octets.{notification}
use Rattle.nch.specs.Told.{read_of}
use Rattle.nch.specs.Owners.{random_of_call, random_of_reduced, emergency_of_call}
use Rattle.receiver.specs.Count.{all_sets, follow_of}
use Rattle.receiver.specs.Halving.{sought_in, halving, rises}
use Rattle.receiver.specs.Model.{late, spares, ran_out_of, taken_of, kept_of, swept_slots, expired_of, dropped_of, class_of, agree, joined_of, meet_of, all_low, setup_right, started_of}
use Rattle.receiver.specs.Entries.{call_entry, reduced_entry, nch_entries}
use Rattle.receiver.specs.Step.{slots_after, told_of, all_after, all_told, refusal_of, step_of}
use Rattle.gcc.specs.Numeral.{spell, worth}
use Rattle.gcc.specs.Cause as cause
use Rattle.gcc.specs.Digits as digits
use Rattle.listed.specs.Listed.{ListedRow, nch-octets, nch-length, ticks, step, halves, cause-octets, digit-octets, refusal, rows, RowHolds, AllHold}
use Rattle.listed.specs.Promises.{EveryListedRowHolds}
use Rattle.listed.proofs.Test.{test, all}
use Rattle.listed.proofs.Whole.{reading_equal, answer-equal, cause-equal, digits-equal}

every-listed-row-passes : all rows ≡ true
unfolding notification read_items field bit pad_bit ground random_of_call random_of_reduced emergency_of_call late sought_in halving spares ran_out_of taken_of kept_of swept_slots
    expired_of dropped_of
    class_of agree joined_of meet_of all_low rises all_sets setup_right started_of call_entry reduced_entry nch_entries slots_after follow_of told_of all_after all_told refusal_of step_of
    cause.read_of
    cause.parse cause.meaning_of cause.is_listed digits.read_of spell worth
every-listed-row-passes = refl

-- octets of another number than 20 are refusal 1
other_length : (s : List ℕ) (n m : ℕ) → length s ≡ n → (not (eqb n 20) ≡ true) × (eqb m 1 ≡ true) → read_of s ≡ refusal m
other_length s n m h e = rw (h, not-true (eqb n 20) e.0, eqb-true m 1 e.1)

a-row_that_passes-holds : (r : ListedRow) → test r ≡ true → RowHolds r
a-row_that_passes-holds (nch-octets s r) e = reading_equal _ r e
a-row_that_passes-holds (nch-length n m) e = λ s h. other_length s n m h (both_true _ _ e)
a-row_that_passes-holds (ticks last now d) e =
    let p = both_true _ _ e in
    let q = both_true _ _ p.1 in
    (eqb-true _ _ p.0, eqb-true _ _ q.0, answer-equal _ _ q.1)
a-row_that_passes-holds (step d n) e = let p = both_true _ _ e in (eqb-true _ _ p.0, answer-equal _ _ p.1)
a-row_that_passes-holds (halves t3206 a x b y) e =
    let p = both_true _ _ e in
    let q = both_true _ _ p.1 in
    (eqb-true _ _ p.0, answer-equal _ _ q.0, answer-equal _ _ q.1)
a-row_that_passes-holds (cause-octets s r w) e = let p = both_true _ _ e in (cause-equal _ _ p.0, eqt→eq _ _ (rw p.1 tt))
a-row_that_passes-holds (digit-octets s r) e = digits-equal _ r e

pub every_listed_row_holds : EveryListedRowHolds
every_listed_row_holds = go rows every-listed-row-passes
  where
    go : (l : List ListedRow) → all l ≡ true → AllHold l
    go [] e = tt
    go (r ∷ l) e = let p = both_true (test r) (all l) e in (a-row_that_passes-holds r p.0, go l p.1)

-- NOTIFICATION/FACCH: from a record to its numbers and back, and from numbers to their record and back. Assumes nothing.
use mathlib.Core.Path.{◌≡◌, refl}
use mathlib.Core.List.{[], ◌∷◌}
use Prim.Native.Nat.{ℕ, ◌+◌, ◌-◌, ◌≤◌, ◌<◌}
use native.Mathlib.Omega.{arith}
use lib.ListN.{length, get_or}
use Rattle.csn1.specs.Told.{is_one, as_bit}
use Rattle.csn1.proofs.Writing.{bit-back, flag-back}
use Rattle.arrays.proofs.Seen.{seen, seen_all}
use Rattle.nch.specs.CallNumbers.{call_numbers, description_by, call_by}
use Rattle.nch.proofs.NotificationFits.{within-behind}
use Rattle.numbers.specs.FacchPlaces.{paging_at, call_at, prioritized_at, release6_at, counted_at, b22_at, random_at, release7_at, uplink_at, emergency_at, caused_at, cause_at, all_length}
use Rattle.numbers.specs.FacchNumbers.{numbers_of, page_from, release6_from, release7_from, record_from, most}
use Rattle.numbers.specs.Promises.{AFacchRecordIsItsNumbers, NumbersAreTheirFacchRecord}

pub a_facch_record_is_its_numbers : AFacchRecordIsItsNumbers
unfolding numbers_of record_from page_from release6_from release7_from call_numbers call_by description_by
a_facch_record_is_its_numbers m used = simp flag-back

-- those behind the number of bits used
abbrev record_length : ℕ
record_length = all_length - paging_at

pub length_most : length most ≡ record_length
unfolding most
length_most = refl

pub numbers_are_their_facch_record : NumbersAreTheirFacchRecord
unfolding seen most numbers_of record_from page_from release6_from release7_from call_numbers call_by description_by
numbers_are_their_facch_record [] n w = absurd (omega arith)
numbers_are_their_facch_record (used ∷ ns) n w =
    rw (
      flag paging_at (omega arith) (omega arith) refl,
      flag (call_at + 1) (omega arith) (omega arith) refl,
      flag (call_at + 2) (omega arith) (omega arith) refl,
      flag (call_at + 5) (omega arith) (omega arith) refl,
      flag (call_at + 7) (omega arith) (omega arith) refl,
      flag (call_at + 8) (omega arith) (omega arith) refl,
      flag prioritized_at (omega arith) (omega arith) refl,
      flag release6_at (omega arith) (omega arith) refl,
      flag counted_at (omega arith) (omega arith) refl,
      flag b22_at (omega arith) (omega arith) refl,
      flag random_at (omega arith) (omega arith) refl,
      flag release7_at (omega arith) (omega arith) refl,
      flag uplink_at (omega arith) (omega arith) refl,
      flag emergency_at (omega arith) (omega arith) refl,
      flag caused_at (omega arith) (omega arith) refl,
      flag cause_at (omega arith) (omega arith) refl,
    )
    (seen_all ns record_length (omega arith))
  where
    flag : (k : ℕ) → paging_at ≤ k → k < all_length → get_or (0 ∷ most) k 0 ≡ 1 → as_bit (is_one (get_or (used ∷ ns) k 0)) ≡ get_or (used ∷ ns) k 0
    flag k o h e = bit-back (get_or (used ∷ ns) k 0) (omega (arith, within-behind (used ∷ ns) most k w o (omega (arith, length_most))))

-- What the receiver and the one-call receiver share, said in propositions. Assumes nothing.
use mathlib.Core.Path.{◌≡◌, refl, ap}
use mathlib.Core.Bool.{Bool, true, false}
use Prim.Native.Nat.{ℕ, zero, suc, ◌+◌, ◌*◌, ◌/◌, ◌%◌, ◌^◌, ◌≤◌}
use native.Mathlib.Omega.{arith}
use lib.Dec.{leb, eqb}
use borrow.Author.Tests.{eqb-true, eq-eqb, leb-true, le-leb, lt-leb}
use Rattle.bits.proofs.Answers.{both_true}
use Rattle.csn1.specs.Told.{as_bit}
use Rattle.call.specs.declared.Call.{Call}
use Rattle.receiver.specs.Model.{same_reference, agree, joined_of}
use Rattle.isolation.specs.Promises.{SameReference, AKeyIsTwiceTheReferencePlusTheService, AKeyTellsReferenceAndServiceApart}
use Rattle.isolation.specs.Promises.{ACallIsCipheredByItsKeyNumber, FullReferencesAgreeInAllBits, ARecordIsItsThreeParts}
use Rattle.isolation.specs.Promises.{TheRestIsOfTheFirstHalf, TheRandIsOfTheSecondHalf, TheCountIsOfTheSecondHalfOrTheFirst, ASetHoldsTheKeyNumbersOfItsBits}
use Rattle.receiver.proofs.Cases.{by-test}

-- ## Keys

pub a_key_is_twice_the_reference_plus_the_service : AKeyIsTwiceTheReferencePlusTheService
a_key_is_twice_the_reference_plus_the_service c = (λ p. rw p (omega arith), λ p. rw p (omega arith))

apart : (m n : ℕ) (a b : Bool) → m * 2 + as_bit a ≡ n * 2 + as_bit b → (m ≡ n) × (a ≡ b)
apart m n true true q = (omega arith, refl)
apart m n true false q = absurd (omega arith)
apart m n false true q = absurd (omega arith)
apart m n false false q = (omega arith, refl)

pub a_key_tells_reference_and_service_apart : AKeyTellsReferenceAndServiceApart
a_key_tells_reference_and_service_apart a b q = apart a.reference b.reference a.vgcs b.vgcs q

-- ## Ciphering

not_zero : (n : ℕ) → (n ≡ 0 → ⊥) → 1 ≤ n
not_zero zero h = absurd (h refl)
not_zero (suc n) h = omega arith

pub a_call_is_ciphered_by_its_key_number : ACallIsCipheredByItsKeyNumber
a_call_is_ciphered_by_its_key_number e = (
  λ p. (λ z. rw p (lt-leb 1 e.call.cipher (omega arith)), λ n. rw p (le-leb 1 e.call.cipher (not_zero e.call.cipher n))),
  λ p. rw p,
)

-- ## References

same_bit : (a b : Bool) → eqb (as_bit a) (as_bit b) ≡ true → a ≡ b
same_bit true true q = refl
same_bit true false q = absurd (omega (arith, eqb-true 1 0 q))
same_bit false true q = absurd (omega (arith, eqb-true 0 1 q))
same_bit false false q = refl

all_same : (a b : Call) → same_reference a b ≡ true → SameReference a b
all_same a b q =
    let x = both_true (eqb a.reference b.reference) _ q in
    let y = both_true (eqb (as_bit a.vgcs) (as_bit b.vgcs)) _ x.1 in
    let z = both_true (eqb (as_bit a.acknowledged) (as_bit b.acknowledged)) _ y.1 in
    let w = both_true (eqb a.priority b.priority) (eqb a.cipher b.cipher) z.1 in
    record {
      reference = eqb-true a.reference b.reference x.0;
      service = same_bit a.vgcs b.vgcs y.0;
      acknowledged = same_bit a.acknowledged b.acknowledged z.0;
      priority = eqb-true a.priority b.priority w.0;
      cipher = eqb-true a.cipher b.cipher w.1;
    }

same-all : (a b : Call) → SameReference a b → same_reference a b ≡ true
same-all a b q =
    rw (
      eq-eqb a.reference b.reference q.reference,
      eq-eqb (as_bit a.vgcs) (as_bit b.vgcs) (ap as_bit q.service),
      eq-eqb (as_bit a.acknowledged) (as_bit b.acknowledged) (ap as_bit q.acknowledged),
      eq-eqb a.priority b.priority q.priority,
      eq-eqb a.cipher b.cipher q.cipher,
    )

pub full_references_agree_in_all_bits : FullReferencesAgreeInAllBits
unfolding agree
full_references_agree_in_all_bits a b = (
  λ p q. (λ w. all_same a.call b.call (rw (p, q) at w), λ w. rw (p, q) (same-all a.call b.call w)),
  λ p. rw p,
  λ q. by-test a.full (λ p. rw (p, q)) (λ p. rw p),
)

-- ## The joined record

pub a_record_is_its_three_parts : ARecordIsItsThreeParts
a_record_is_its_three_parts a b p q w =
    λ i.
    record {
      full = (p i).full;
      call = (p i).call;
      hasSegment = (p i).hasSegment;
      segment = (p i).segment;
      hasRandom = (q i).0;
      rand = (q i).1;
      emergency = (p i).emergency;
      common =
          record {
            hasCount = (w i).0;
            cellcount = (w i).1;
            b22 = (w i).2;
            hasUplink = (p i).common.hasUplink;
            uplink = (p i).common.uplink;
            hasAmr = (p i).common.hasAmr;
            hasFullrate = (p i).common.hasFullrate;
            fullrate = (p i).common.fullrate;
            hasHalfrate = (p i).common.hasHalfrate;
            halfrate = (p i).common.halfrate;
            hasSms = (p i).common.hasSms;
            confidential = (p i).common.confidential;
            private = (p i).common.private;
          };
    }

pub the_rest_is_of_the_first_half : TheRestIsOfTheFirstHalf
unfolding joined_of
the_rest_is_of_the_first_half first second = refl

pub the_rand_is_of_the_second_half : TheRandIsOfTheSecondHalf
unfolding joined_of
the_rand_is_of_the_second_half first second p = rw p

pub the_count_is_of_the_second_half_or_the_first : TheCountIsOfTheSecondHalfOrTheFirst
unfolding joined_of
the_count_is_of_the_second_half_or_the_first first second = (λ p. rw p, λ p. rw p)

-- ## Group keys

pub a_set_holds_the_key_numbers_of_its_bits : ASetHoldsTheKeyNumbersOfItsBits
a_set_holds_the_key_numbers_of_its_bits set n = (
  λ q.
      let a = both_true (leb 1 n) _ q in
      let b = both_true (leb n 15) _ a.1 in
      (leb-true 1 n a.0, leb-true n 15 b.0, eqb-true (set / 2 ^ n % 2) 1 b.1),
  λ w. rw (le-leb 1 n w.0, le-leb n 15 w.1, eq-eqb (set / 2 ^ n % 2) 1 w.2),
)

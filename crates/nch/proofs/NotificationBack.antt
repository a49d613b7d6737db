-- NT/N Rest Octets: from a record to its numbers and back, and from numbers to their record and back. Assumes nothing.
use mathlib.Core.Path.{◌≡◌, refl, ap, ◌∙◌}
use mathlib.Core.List.{List, [], ◌∷◌}
use mathlib.Core.Bool.{Bool, true, false}
use Prim.Native.Nat.{ℕ, zero, suc, ◌+◌, ◌≤◌}
use native.Mathlib.Nat.{add-zero, add-suc}
use native.Mathlib.Omega.{arith}
use lib.Dec.{leb, eqb}
use lib.ListN.{length, get_or, drop, replicate}
use borrow.Author.Tests.{eqb-true, leb-true}
use Rattle.bits.specs.Field.{pick}
use Rattle.csn1.specs.Told.{is_one, as_bit}
use Rattle.bits.proofs.Answers.{both_true}
use Rattle.arrays.specs.Limits.{within}
use Rattle.arrays.specs.Runs.{each}
use Rattle.call.specs.declared.Call.{Call}
use Rattle.call.specs.Call.{no_call}
use Rattle.nch.specs.declared.Reduced.{Reduced}
use Rattle.nch.specs.declared.Random.{Random}
use Rattle.nch.specs.declared.Release6.{Release6}
use Rattle.nch.specs.declared.Release7.{Release7}
use Rattle.nch.specs.declared.Notification.{Notification}
use Rattle.csn1.specs.Format.{Res, ok, bad}
use Rattle.nch.specs.Octets.{Value, read_octets}
use Rattle.nch.specs.Told.{Shaped, no_reduced, no_random, reading_of, read_of}
use Rattle.nch.specs.Places.{most_calls, most_reduceds, most_randoms, most_marks, numbered_at, all_length}
use Rattle.nch.proofs.Ends.{record_length}
use Rattle.nch.specs.CallNumbers.{call_numbers, description_by, call_by}
use Rattle.nch.specs.NotificationNumbers.{reduced_numbers, random_numbers, mark_numbers, release6_numbers, parts_numbers, release7_numbers, numbers_of, reduced_by}
use Rattle.nch.specs.NotificationNumbers.{random_from, release6_by, release7_by, record_by, record_from, read_numbers, most, Fits}

-- ## From numbers to their record and back

-- n numbers from place k on
tabled : List ℕ → ℕ → ℕ → List ℕ
tabled l k zero = []
tabled l k (suc n) = get_or l k 0 ∷ tabled l (k + 1) n

tabled-behind : (x : ℕ) (l : List ℕ) (k n : ℕ) → tabled (x ∷ l) (k + 1) n ≡ tabled l k n
unfolding tabled
tabled-behind x l k zero = refl
tabled-behind x l k (suc n) =
    let e : get_or (x ∷ l) (k + 1) 0 ≡ get_or l k 0 = rw (add-suc k 0, add-zero k) in
    rw e (ap (λ (y : List ℕ). get_or l k 0 ∷ y) (tabled-behind x l (k + 1) n))

tabled-all : (l : List ℕ) (n : ℕ) → length l ≡ n → tabled l 0 n ≡ l
unfolding tabled
tabled-all [] zero e = refl
tabled-all [] (suc n) e = absurd (omega arith)
tabled-all (x ∷ l) zero e = absurd (omega arith)
tabled-all (x ∷ l) (suc n) e = ap (λ (y : List ℕ). x ∷ y) (tabled-behind x l 0 n ∙ tabled-all l n (omega arith))

-- a number that is no more than 1 is the number of its flag
flag-held : (n : ℕ) → n ≤ 1 → as_bit (is_one n) ≡ n
flag-held zero h = refl
flag-held (suc zero) h = refl
flag-held (suc (suc n)) h = absurd (omega arith)

-- numbers that went through their fields: where the largest is 1, through a flag
through : List ℕ → List ℕ → List ℕ
through [] ms = []
through (n ∷ ns) [] = n ∷ ns
through (n ∷ ns) (m ∷ ms) = pick (eqb m 1) (as_bit (is_one n)) n ∷ through ns ms

through-one : (t : Bool) (n m : ℕ) → eqb m 1 ≡ t → n ≤ m → pick t (as_bit (is_one n)) n ≡ n
through-one true n m e h = flag-held n (omega (arith, eqb-true m 1 e))
through-one false n m e h = refl

through_same : (ns ms : List ℕ) → within ns ms ≡ true → through ns ms ≡ ns
unfolding within through
through_same [] ms e = refl
through_same (n ∷ ns) [] e = refl
through_same (n ∷ ns) (m ∷ ms) e =
    let b = both_true (leb n m) (within ns ms) e in
    rw (through-one (eqb m 1) n m refl (leb-true n m b.0), through_same ns ms b.1)

-- those behind the first
tabled-rest : (l : List ℕ) (n : ℕ) → length l ≡ n + 1 → tabled l 1 n ≡ drop 1 l
tabled-rest [] n e = absurd (omega arith)
tabled-rest (x ∷ l) n e = tabled-behind x l 0 n ∙ tabled-all l n (omega arith)

through-all : (ns : List ℕ) → numbers_of (record_from ns) ≡ through (tabled ns numbered_at record_length) most
unfolding tabled through most each call_numbers description_by call_by reduced_numbers random_numbers mark_numbers release6_numbers parts_numbers release7_numbers numbers_of reduced_by
    random_from release6_by release7_by record_by
through-all ns = refl

pub numbers-back : (ns : List ℕ) → length ns ≡ all_length → Fits ns → numbers_of (record_from ns) ≡ drop numbered_at ns
numbers-back ns n f =
    through-all ns ∙ ap (λ (l : List ℕ). through l most) (tabled-rest ns record_length n) ∙ through_same (drop numbered_at ns) most f.held

-- ## From a record to its numbers and back

flag-back : (b : Bool) → is_one (as_bit b) ≡ b
flag-back true = refl
flag-back false = refl

-- the elements of a list of n, one by one
spread : {A : Type 0} → A → ℕ → List A → List A
spread z zero l = []
spread z (suc n) l = get_or l 0 z ∷ spread z n (drop 1 l)

spread-all : {A : Type 0} (z : A) (n : ℕ) (l : List A) → length l ≡ n → spread z n l ≡ l
unfolding spread
spread-all z zero [] e = refl
spread-all z zero (x ∷ l) e = absurd (omega arith)
spread-all z (suc n) [] e = absurd (omega arith)
spread-all z (suc n) (x ∷ l) e = ap (λ y. x ∷ y) (spread-all z n l (omega arith))

abbrev with6 : Release6 → List Reduced → List Random → Release6
with6 r a b =
    record {
      hasRelease = r.hasRelease;
      hasCount = r.hasCount;
      cellcount = r.cellcount;
      reducedcount = r.reducedcount;
      reduced = a;
      randomcount = r.randomcount;
      randoms = b;
    }

abbrev with7 : Release7 → List Bool → Release7
with7 r a =
    record {
      hasRelease = r.hasRelease;
      markcount = r.markcount;
      marks = a;
      hasUplink = r.hasUplink;
      uplink = r.uplink;
      hasAmr = r.hasAmr;
      hasFullrate = r.hasFullrate;
      fullrate = r.fullrate;
      hasHalfrate = r.hasHalfrate;
      halfrate = r.halfrate;
      hasSms = r.hasSms;
      confidential = r.confidential;
      private = r.private;
    }

abbrev with_arrays : Notification → List Call → List Reduced → List Random → List Bool → Notification
with_arrays m a b d e =
    record {
      hasNln = m.hasNln;
      nln = m.nln;
      callcount = m.callcount;
      calls = a;
      release6 = with6 m.release6 b d;
      release7 = with7 m.release7 e;
    }

spread-out : Notification → Notification
spread-out m =
    with_arrays m (spread no_call most_calls m.calls) (spread no_reduced most_reduceds m.release6.reduced) (spread no_random most_randoms m.release6.randoms)
    (spread false most_marks m.release7.marks)

spread_same : (m : Notification) → Shaped m → spread-out m ≡ m
unfolding spread-out
spread_same m s =
    ap (λ (a : List Call). with_arrays m a (spread no_reduced most_reduceds m.release6.reduced) (spread no_random most_randoms m.release6.randoms) (spread false most_marks m.release7.marks))
    (spread-all no_call most_calls m.calls s.calls)
    ∙ ap (λ (b : List Reduced). with_arrays m m.calls b (spread no_random most_randoms m.release6.randoms) (spread false most_marks m.release7.marks))
    (spread-all no_reduced most_reduceds m.release6.reduced s.reduced)
    ∙ ap (λ (d : List Random). with_arrays m m.calls m.release6.reduced d (spread false most_marks m.release7.marks))
    (spread-all no_random most_randoms m.release6.randoms s.randoms)
    ∙ ap (λ (e : List Bool). with_arrays m m.calls m.release6.reduced m.release6.randoms e)
    (spread-all false most_marks m.release7.marks s.marks)

-- whatever number stands before its own
spread-back : (m : Notification) (used : ℕ) → record_from (used ∷ numbers_of (spread-out m)) ≡ spread-out m
unfolding spread-out spread each call_numbers description_by call_by reduced_numbers random_numbers mark_numbers release6_numbers parts_numbers release7_numbers numbers_of reduced_by
    random_from release6_by release7_by record_by
spread-back m used = simp flag-back

pub record_back : (m : Notification) (used : ℕ) → Shaped m → record_from (used ∷ numbers_of m) ≡ m
record_back m used s = rw (spread_same m s) at (spread-back m used)

-- ## A refused reading is all zeros

bad-zeros : (r : Res Value) → ((reading_of r).refusal.number ≡ 0 → ⊥) → (reading_of r).used ∷ numbers_of (reading_of r).«record» ≡ replicate all_length 0
unfolding numbers_of each call_numbers reduced_numbers random_numbers mark_numbers release6_numbers parts_numbers release7_numbers
bad-zeros (bad r) h = refl
bad-zeros (ok v q) h = absurd (h refl)

pub refused-zeros : (s : List ℕ) → ((read_of s).refusal.number ≡ 0 → ⊥) → read_numbers s ≡ replicate all_length 0
unfolding read_numbers
refused-zeros s h = bad-zeros (read_octets s) h

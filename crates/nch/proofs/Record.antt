-- A notification as record and as value: each says the other, and what the writer asks of the record is what the grammar asks of the value. Assumes nothing.
use mathlib.Core.Path.{◌≡◌, refl, ap, ◌∙◌}
use mathlib.Core.List.{[], ◌∷◌, map}
use mathlib.Core.Bool.{Bool, true, false}
use mathlib.Core.Option.{Option}
use Prim.Native.Nat.{ℕ, ◌+◌, ◌≤◌}
use native.Mathlib.Omega.{arith}
use lib.ListN.{length, take}
use lib.Dec.{leb, eqb}
use borrow.Author.Tests.{leb-true, le-leb}
use Rattle.bits.specs.Field.{pick}
use Rattle.csn1.specs.Format.{num, OptFits, ItemsFit}
use Rattle.csn1.specs.Grammar.{format}
use Rattle.csn1.specs.Told.{there, as_bit}
use Rattle.csn1.specs.Write.{flagged_right}
use Rattle.bits.proofs.Answers.{both_true}
use Rattle.csn1.proofs.Flags.{flag-fits, fits-flag, flag-zero}
use Rattle.csn1.proofs.Writing.{there_back}
use Rattle.csn1.proofs.Telling.{true-both, picked, due-last, number-back}
use Rattle.call.specs.declared.Call.{Call}
use Rattle.call.specs.Call.{CallValue, group_call, call_of, call_value, description_value, no_call, ciphered}
use Rattle.call.specs.Write.{call_in_range, call_is_zero, call_is_low, call_length_right, call_hops_right}
use Rattle.call.proofs.Record.{call_fits, call_back, value-back, value-in_range, value_low, value-length, value-hops, zero_is, no_call-zero}
use Rattle.nch.specs.declared.Notification.{Notification}
use Rattle.nch.specs.Octets.{Release6Value, Value, release6, release7, notification, count, ciphered_value, described_value, reduceds_in, randoms_in, marks_in}
use Rattle.nch.specs.Told.{record_of, reduced_value, random_value, release6_value, release7_value, value_of, Shaped}
use Rattle.nch.specs.Write.{places_right, all, release6_in_range, in_range, calls_of, reduced_is_low, references_low, lengths_right}
use Rattle.nch.specs.Write.{hops_right, randoms_owned, is_described, marks_owned, record_tests, record_refusal, form_fits, write_number}
use Rattle.nch.specs.Inner.{call_right}
use Rattle.nch.proofs.InPlaces.{places-back, places-good, all_both, items-fit, told-all, told-places, told_back, take-told, count_map, count_le}
use Rattle.nch.proofs.Releases.{in_use, Right6, right6, range6, fits6, back6, value6, told6, low6, count6, Right7, right7, range7, fits7, back7, value7, told7, count7}

-- ## From a record that the writer accepts

-- what the writer asks of a record, but for the length of its written form
pub record Right (m : Notification) : Type 0 where
  pub few : m.callcount ≤ 4
  pub hasNln : flagged_right m.hasNln m.nln 4 ≡ true
  calls : places_right call_in_range call_is_zero m.callcount m.calls ≡ true
  pub six : Right6 m.release6
  pub seven : Right7 m.release7
  low : all call_is_low (calls_of m) ≡ true
  low_reduced : all reduced_is_low (take m.release6.reducedcount m.release6.reduced) ≡ true
  lengths : all call_length_right (calls_of m) ≡ true
  hops : all call_hops_right (calls_of m) ≡ true
  pub randoms : m.release6.randomcount ≤ count ciphered (calls_of m) + m.release6.reducedcount
  pub marks : m.release7.markcount ≤ count is_described (calls_of m)

-- the writer makes one test more
pub one_more : (m : Notification) (n : ℕ) → write_number m n ≡ pick (eqb (record_refusal m) 0) (pick (form_fits m n) 0 11) (record_refusal m)
unfolding record_refusal write_number
one_more m n =
    due-last (record_tests m) ((form_fits m n, 11) ∷ []) ((omega arith, (omega arith, (omega arith, (omega arith, (omega arith, (omega arith, tt)))))))

pub right : (m : Notification) → record_refusal m ≡ 0 → Right m
unfolding record_refusal in_range references_low lengths_right hops_right randoms_owned marks_owned
right m e =
    let a = picked (in_range m) _ 12 (omega arith) e in
    let b = picked (references_low m) _ 4 (omega arith) a.1 in
    let c = picked (lengths_right m) _ 3 (omega arith) b.1 in
    let d = picked (hops_right m) _ 5 (omega arith) c.1 in
    let f = picked (randoms_owned m) _ 6 (omega arith) d.1 in
    let g = picked (marks_owned m) 0 7 (omega arith) f.1 in
    let j = both_true (leb m.callcount 4) _ a.0 in
    let k = both_true (flagged_right m.hasNln m.nln 4) _ j.1 in
    let l = both_true (places_right call_in_range call_is_zero m.callcount m.calls) _ k.1 in
    let n = both_true (release6_in_range m.release6) _ l.1 in
    let o = both_true (all call_is_low (calls_of m)) _ b.0 in
    record {
      few = leb-true m.callcount 4 j.0;
      hasNln = k.0;
      calls = l.0;
      six = right6 m.release6 n.0;
      seven = right7 m.release7 n.1;
      low = o.0;
      low_reduced = o.1;
      lengths = c.0;
      hops = d.0;
      randoms = leb-true m.release6.randomcount (count ciphered (calls_of m) + m.release6.reducedcount) f.0;
      marks = leb-true m.release7.markcount (count is_described (calls_of m)) g.0;
    }

module _ (m : Notification) (t : Right m) where
  all_in-range : in_range m ≡ true
  unfolding in_range
  all_in-range =
      true-both (le-leb m.callcount 4 t.few)
      (true-both t.hasNln (true-both t.calls (true-both (range6 m.release6 t.six) (range7 m.release7 t.seven))))

  all-low : references_low m ≡ true
  unfolding references_low
  all-low = true-both t.low t.low_reduced

  all-lengths : lengths_right m ≡ true
  unfolding lengths_right
  all-lengths = t.lengths

  all-hops : hops_right m ≡ true
  unfolding hops_right
  all-hops = t.hops

  all_owned : randoms_owned m ≡ true
  unfolding randoms_owned
  all_owned = le-leb m.release6.randomcount (count ciphered (calls_of m) + m.release6.reducedcount) t.randoms

  all-marked : marks_owned m ≡ true
  unfolding marks_owned
  all-marked = le-leb m.release7.markcount (count is_described (calls_of m)) t.marks

  pub right-all : record_refusal m ≡ 0
  unfolding record_refusal
  right-all = rw (all_in-range, all-low, all-lengths, all-hops, all_owned, all-marked)

-- the value of such a record fits, and says the record

one-call : (c : Call) → call_right c ≡ true → group_call.fits (call_value c)
one-call c e =
    let a = both_true (call_in_range c) _ e in
    let b = both_true (call_is_low c) _ a.1 in
    let d = both_true (call_length_right c) (call_hops_right c) b.1 in
    call_fits c a.0 b.0 d.0 d.1

described-value : (c : Call) → described_value (call_value c) ≡ is_described c
described-value c = there_back c.hasDescription (description_value c.description)

module _ (m : Notification) (t : Right m) where
  pub calls-right : all call_right (calls_of m) ≡ true
  calls-right =
      all_both call_in_range _ (calls_of m) (places-good call_in_range call_is_zero m.callcount m.calls t.calls)
      (all_both call_is_low _ (calls_of m) t.low (all_both call_length_right call_hops_right (calls_of m) t.lengths t.hops))

  calls-fit : ItemsFit group_call (map call_value (calls_of m))
  calls-fit = items-fit group_call call_value call_right one-call (calls_of m) calls-right

  module _ (s : Shaped m) where
    -- Release 6, there or not
    abbrev six_if : Bool → Option Release6Value
    six_if h = there h (release6_value m.release6)

    randoms-fit : (h : Bool) → leb (length (randoms_in (six_if h))) (count ciphered_value (map call_value (calls_of m)) + length (reduceds_in (six_if h))) ≡ true
    randoms-fit false = le-leb 0 (count ciphered_value (map call_value (calls_of m)) + 0) (omega arith)
    randoms-fit true =
        rw (
          in_use random_value m.release6.randomcount 9 m.release6.randoms t.six.few_randoms s.randoms,
          in_use reduced_value m.release6.reducedcount 5 m.release6.reduced t.six.few s.reduced,
          count_map call_value ciphered ciphered_value (λ c. refl) (calls_of m),
        )
        (le-leb m.release6.randomcount (count ciphered (calls_of m) + m.release6.reducedcount) t.randoms)

    marks-fit : (h : Bool) → leb (length (marks_in (there h (release7_value m.release7)))) (count described_value (map call_value (calls_of m))) ≡ true
    marks-fit false = le-leb 0 (count described_value (map call_value (calls_of m))) (omega arith)
    marks-fit true =
        rw (
          in_use as_bit m.release7.markcount 4 m.release7.marks t.seven.few s.marks,
          count_map call_value is_described described_value described-value (calls_of m),
        )
        (le-leb m.release7.markcount (count is_described (calls_of m)) t.marks)

    pub record_fits : notification.fits (value_of m)
    unfolding notification group_call
    record_fits = (
      (
        (flag-fits m.hasNln m.nln 2 t.hasNln, (calls-fit, (fits6 m.release6 t.six t.low_reduced, fits7 m.release7 t.seven))),
        randoms-fit m.release6.hasRelease,
      ),
      marks-fit m.release7.hasRelease,
    )

    pub record_back : record_of (value_of m) ≡ m
    record_back =
        λ i.
        record {
          hasNln = there_back m.hasNln m.nln i;
          nln = flag-zero m.hasNln m.nln 4 t.hasNln i;
          callcount = in_use call_value m.callcount 4 m.calls t.few s.calls i;
          calls = places-back no_call call_in_range call_is_zero zero_is call_of call_value call_back 4 m.callcount m.calls s.calls t.calls i;
          release6 = back6 m.release6 t.six s.reduced s.randoms i;
          release7 = back7 m.release7 t.seven s.marks i;
        }

-- ## From a value that fits

-- what the grammar asks of it
pub record Fits (v : Value) : Type 0 where
  hasNln : OptFits (num 2) v.0
  pub calls : ItemsFit group_call v.1.0
  pub six : OptFits (format release6) v.1.1.0
  pub seven : OptFits (format release7) v.1.1.1
  randoms : length (randoms_in v.1.1.0) ≤ count ciphered_value v.1.0 + length (reduceds_in v.1.1.0)
  marks : length (marks_in v.1.1.1) ≤ count described_value v.1.0

pub fits : (v : Value) → notification.fits v → Fits v
unfolding notification group_call
fits v f =
    record {
      hasNln = f.0.0.0;
      calls = f.0.0.1.0;
      six = f.0.0.1.1.0;
      seven = f.0.0.1.1.1;
      randoms = leb-true (length (randoms_in v.1.1.0)) (count ciphered_value v.1.0 + length (reduceds_in v.1.1.0)) f.0.1;
      marks = leb-true (length (marks_in v.1.1.1)) (count described_value v.1.0) f.1;
    }

module _ (v : Value) (f : Fits v) (four : length v.1.0 ≤ 4) (five : length (reduceds_in v.1.1.0) ≤ 5) where
  -- then there are places for the rest of it
  nine : length (randoms_in v.1.1.0) ≤ 9
  nine = omega (arith, f.randoms, count_le ciphered_value v.1.0)

  marks-four : length (marks_in v.1.1.1) ≤ 4
  marks-four = omega (arith, f.marks, count_le described_value v.1.0)

  pub value-said : value_of (record_of v) ≡ v
  value-said =
      λ i. (
        number-back v.0 i,
        (
          told_back group_call call_of no_call call_value value-back 4 v.1.0 f.calls four i,
          (value6 v.1.1.0 f.six five nine i, value7 v.1.1.1 f.seven marks-four i),
        ),
      )

  -- as many of the calls told pass a test as of the values
  same_count : (t : Call → Bool) (u : CallValue → Bool) → ((a : CallValue) → t (call_of a) ≡ u a) → count t (calls_of (record_of v)) ≡ count u v.1.0
  same_count t u e = ap (count t) (take-told call_of no_call 4 v.1.0 four) ∙ count_map call_of u t e v.1.0

  -- what holds of each call told
  calls-all : (t : Call → Bool) → ((a : CallValue) → group_call.fits a → t (call_of a) ≡ true) → all t (calls_of (record_of v)) ≡ true
  calls-all t g = told-all group_call call_of no_call t g 4 v.1.0 f.calls

  pub value-right : Right (record_of v)
  value-right =
      record {
        few = four;
        hasNln = fits-flag v.0 2 f.hasNln;
        calls = told-places group_call call_of no_call call_in_range call_is_zero no_call-zero value-in_range 4 v.1.0 f.calls;
        six = told6 v.1.1.0 f.six five nine;
        seven = told7 v.1.1.1 f.seven marks-four;
        low = calls-all call_is_low value_low;
        low_reduced = low6 v.1.1.0 f.six;
        lengths = calls-all call_length_right value-length;
        hops = calls-all call_hops_right value-hops;
        randoms = omega (arith, f.randoms, (count6 v.1.1.0).0, (count6 v.1.1.0).1, same_count ciphered ciphered_value (λ a. refl));
        marks = omega (arith, f.marks, count7 v.1.1.1, same_count is_described described_value (λ a. refl));
      }

-- The parts that Releases 6 and 7 added, as record and as value: each says the other, and what the writer asks of the one is what the grammar asks of the other. Assumes nothing.
use mathlib.Core.Path.{◌≡◌, refl, sym, ap, ◌∙◌}
use mathlib.Core.List.{List, [], ◌∷◌, map}
use mathlib.Core.Bool.{Bool, true, false, not}
use mathlib.Core.Option.{Option, none, some}
use Prim.Native.Nat.{ℕ, ◌^◌, ◌≤◌}
use native.Mathlib.Omega.{arith}
use lib.ListN.{length, take, length-map}
use lib.Seq.{length-take-le}
use lib.Dec.{leb, eqb}
use borrow.Author.Tests.{ltb-true, leb-true, eqb-true, not-true, lt-ltb, le-leb}
use Rattle.bits.specs.Field.{both, pick}
use Rattle.csn1.specs.Format.{num, OptFits}
use Rattle.csn1.specs.Grammar.{number, ◌and◌, format}
use Rattle.csn1.specs.Told.{is_there, or_zero, there, is_one, as_bit}
use Rattle.csn1.specs.Write.{flagged_right, behind}
use Rattle.bits.proofs.Answers.{both_true}
use Rattle.csn1.proofs.Flags.{flag-fits, fits-flag, flag-zero, flag-none, bit-fits, behind-none, behind-bit, bit-behind, bit-value}
use Rattle.csn1.proofs.Writing.{bit-back, flag-back, flag_lt, there_back}
use Rattle.csn1.proofs.Telling.{true-both, number-back}
use Rattle.nch.specs.declared.Reduced.{Reduced}
use Rattle.nch.specs.declared.Random.{Random}
use Rattle.nch.specs.declared.Release6.{Release6}
use Rattle.nch.specs.declared.Release7.{Release7}
use Rattle.nch.specs.Octets.{Release6Value, Release7Value, AmrValue, reduced, random, amr, release6, release7, reduceds_in, randoms_in, marks_in}
use Rattle.nch.specs.Told.{reduced_of, no_reduced, random_of, no_random, release6_of, release7_of, full_rate}
use Rattle.nch.specs.Told.{half_rate, confidentiality, privacy, reduced_value, random_value, release6_value, release7_value, amr_value}
use Rattle.nch.specs.Write.{places_right, all, reduced_in_range, reduced_is_zero, random_in_range, random_is_zero, any_mark, amr_in_range, release6_in_range, release7_in_range, reduced_is_low}
use Rattle.nch.proofs.InPlaces.{places-back, places-empty, places-good, all_both, items-fit, told-all, told-places, told_back}

-- ## A reduced reference

reduced-fits : (r : Reduced) → reduced_in_range r ≡ true → reduced_is_low r ≡ true → (format reduced).fits (reduced_value r)
reduced-fits r e l = ((ltb-true r.reference (2 ^ 27) e, (flag_lt r.vgcs, tt)), l)

reduced-back : (r : Reduced) → reduced_of (reduced_value r) ≡ r
reduced-back r = λ i. record { reference = r.reference; vgcs = flag-back r.vgcs i }

reduced-zero : (r : Reduced) → reduced_is_zero r ≡ true → r ≡ no_reduced
reduced-zero r e =
    let b = both_true (eqb r.reference 0) (not r.vgcs) e in
    λ i. record { reference = eqb-true r.reference 0 b.0 i; vgcs = not-true r.vgcs b.1 i }

reduced-value : (v : List ℕ) → (format reduced).fits v → reduced_value (reduced_of v) ≡ v
reduced-value [] f = absurd f.0
reduced-value (a ∷ []) f = absurd f.0.1
reduced-value (a ∷ b ∷ []) f = ap (λ x. a ∷ x ∷ []) (bit-back b f.0.1.0)
reduced-value (a ∷ b ∷ c ∷ v) f = absurd f.0.1.1

pub reduced-range : (v : List ℕ) → (format reduced).fits v → reduced_in_range (reduced_of v) ≡ true
reduced-range [] f = absurd f.0
reduced-range (a ∷ v) f = lt-ltb a (2 ^ 27) f.0.0

-- ## A random entry

random-fits : (r : Random) → random_in_range r ≡ true → (format random).fits (random_value r)
random-fits r e = (flag_lt r.segment, flag-fits r.hasRandom r.rand 36 e)

random-back : (r : Random) → random_in_range r ≡ true → random_of (random_value r) ≡ r
random-back r e = λ i. record { segment = flag-back r.segment i; hasRandom = there_back r.hasRandom r.rand i; rand = flag-zero r.hasRandom r.rand (2 ^ 36) e i }

random-zero : (r : Random) → random_is_zero r ≡ true → r ≡ no_random
random-zero r e =
    let a = both_true (not r.segment) (both (not r.hasRandom) (eqb r.rand 0)) e in
    let b = both_true (not r.hasRandom) (eqb r.rand 0) a.1 in
    λ i. record { segment = not-true r.segment a.0 i; hasRandom = not-true r.hasRandom b.0 i; rand = eqb-true r.rand 0 b.1 i }

random-value : (v : ℕ × Option ℕ) → (format random).fits v → random_value (random_of v) ≡ v
random-value v f = λ i. (bit-back v.0 f.0 i, number-back v.1 i)

-- ## Release 6

-- what the writer asks of it
pub record Right6 (r : Release6) : Type 0 where
  pub few : r.reducedcount ≤ 5
  pub few_randoms : r.randomcount ≤ 9
  absent : pick r.hasRelease true (both (not r.hasCount) (both (eqb r.reducedcount 0) (eqb r.randomcount 0))) ≡ true
  pub hasCount : flagged_right r.hasCount r.cellcount 4 ≡ true
  pub places : places_right reduced_in_range reduced_is_zero r.reducedcount r.reduced ≡ true
  pub randoms : places_right random_in_range random_is_zero r.randomcount r.randoms ≡ true

pub right6 : (r : Release6) → release6_in_range r ≡ true → Right6 r
unfolding release6_in_range
right6 r e =
    let a = both_true (leb r.reducedcount 5) _ e in
    let b = both_true (leb r.randomcount 9) _ a.1 in
    let c = both_true (pick r.hasRelease true (both (not r.hasCount) (both (eqb r.reducedcount 0) (eqb r.randomcount 0)))) _ b.1 in
    let d = both_true (flagged_right r.hasCount r.cellcount 4) _ c.1 in
    let g = both_true (places_right reduced_in_range reduced_is_zero r.reducedcount r.reduced) _ d.1 in
    record {
      few = leb-true r.reducedcount 5 a.0;
      few_randoms = leb-true r.randomcount 9 b.0;
      absent = c.0;
      hasCount = d.0;
      places = g.0;
      randoms = g.1;
    }

pub range6 : (r : Release6) → Right6 r → release6_in_range r ≡ true
unfolding release6_in_range
range6 r t =
    true-both (le-leb r.reducedcount 5 t.few)
    (true-both (le-leb r.randomcount 9 t.few_randoms)
    (true-both t.absent (true-both t.hasCount (true-both t.places t.randoms))))

pub fits6 : (r : Release6) → Right6 r → all reduced_is_low (take r.reducedcount r.reduced) ≡ true → OptFits (format release6) (there r.hasRelease (release6_value r))
fits6 r t low = go r.hasRelease
  where
    one : (a : Reduced) → both (reduced_in_range a) (reduced_is_low a) ≡ true → (format reduced).fits (reduced_value a)
    one a e =
        let b = both_true (reduced_in_range a) (reduced_is_low a) e in
        reduced-fits a b.0 b.1

    go : (h : Bool) → OptFits (format release6) (there h (release6_value r))
    go false = tt
    go true = (
      flag-fits r.hasCount r.cellcount 2 t.hasCount,
      (
        items-fit (format reduced) reduced_value (λ a. both (reduced_in_range a) (reduced_is_low a)) one (take r.reducedcount r.reduced)
            (all_both reduced_in_range reduced_is_low (take r.reducedcount r.reduced) (places-good reduced_in_range reduced_is_zero r.reducedcount r.reduced t.places) low),
        items-fit (format random) random_value random_in_range random-fits (take r.randomcount r.randoms)
            (places-good random_in_range random_is_zero r.randomcount r.randoms t.randoms),
      ),
    )

-- as many values as places in use
pub in_use : {A B : Type 0} (f : A → B) (n k : ℕ) (l : List A) → n ≤ k → length l ≡ k → length (map f (take n l)) ≡ n
in_use f n k l h e = length-map (take n l) f ∙ length-take-le n l (omega arith)

pub back6 : (r : Release6) → Right6 r → length r.reduced ≡ 5 → length r.randoms ≡ 9 → release6_of (there r.hasRelease (release6_value r)) ≡ r
back6 r t five nine = go r.hasRelease refl t.absent
  where
    go : (h : Bool) → r.hasRelease ≡ h → pick h true (both (not r.hasCount) (both (eqb r.reducedcount 0) (eqb r.randomcount 0))) ≡ true
        → release6_of (there h (release6_value r)) ≡ r
    go true o e =
        λ i.
        record {
          hasRelease = sym o i;
          hasCount = there_back r.hasCount r.cellcount i;
          cellcount = flag-zero r.hasCount r.cellcount 4 t.hasCount i;
          reducedcount = in_use reduced_value r.reducedcount 5 r.reduced t.few five i;
          reduced = places-back no_reduced reduced_in_range reduced_is_zero reduced-zero reduced_of reduced_value (λ a g. reduced-back a) 5 r.reducedcount r.reduced five t.places i;
          randomcount = in_use random_value r.randomcount 9 r.randoms t.few_randoms nine i;
          randoms = places-back no_random random_in_range random_is_zero random-zero random_of random_value random-back 9 r.randomcount r.randoms nine t.randoms i;
        }
    go false o e =
        let a = both_true (not r.hasCount) (both (eqb r.reducedcount 0) (eqb r.randomcount 0)) e in
        let b = both_true (eqb r.reducedcount 0) (eqb r.randomcount 0) a.1 in
        let u = not-true r.hasCount a.0 in
        let x = eqb-true r.reducedcount 0 b.0 in
        let y = eqb-true r.randomcount 0 b.1 in
        λ i.
        record {
          hasRelease = sym o i;
          hasCount = sym u i;
          cellcount = flag-none r.hasCount r.cellcount 4 u t.hasCount i;
          reducedcount = sym x i;
          reduced = places-empty no_reduced reduced_in_range reduced_is_zero reduced-zero 5 r.reducedcount r.reduced five x t.places i;
          randomcount = sym y i;
          randoms = places-empty no_random random_in_range random_is_zero random-zero 9 r.randomcount r.randoms nine y t.randoms i;
        }

pub value6 : (o : Option Release6Value) → OptFits (format release6) o → length (reduceds_in o) ≤ 5 → length (randoms_in o) ≤ 9
    → there (release6_of o).hasRelease (release6_value (release6_of o)) ≡ o
value6 none f h k = refl
value6 (some v) f h k =
    λ i.
    some (
      number-back v.0 i,
      (
        told_back (format reduced) reduced_of no_reduced reduced_value reduced-value 5 v.1.0 f.1.0 h i,
        told_back (format random) random_of no_random random_value random-value 9 v.1.1 f.1.1 k i,
      ),
    )

pub told6 : (o : Option Release6Value) → OptFits (format release6) o → length (reduceds_in o) ≤ 5 → length (randoms_in o) ≤ 9 → Right6 (release6_of o)
unfolding places_right
told6 none f h k = record { few = omega arith; few_randoms = omega arith; absent = refl; hasCount = refl; places = refl; randoms = refl }
told6 (some v) f h k =
    record {
      few = h;
      few_randoms = k;
      absent = refl;
      hasCount = fits-flag v.0 2 f.0;
      places = told-places (format reduced) reduced_of no_reduced reduced_in_range reduced_is_zero refl reduced-range 5 v.1.0 f.1.0;
      randoms = told-places (format random) random_of no_random random_in_range random_is_zero refl (λ a g. fits-flag a.1 36 g.1) 9 v.1.1 f.1.1;
    }

pub low6 : (o : Option Release6Value) → OptFits (format release6) o → all reduced_is_low (take (release6_of o).reducedcount (release6_of o).reduced) ≡ true
unfolding all
low6 none f = refl
low6 (some v) f = told-all (format reduced) reduced_of no_reduced reduced_is_low (λ a g. g.1) 5 v.1.0 f.1.0

-- its numbers are as many as were told
pub count6 : (o : Option Release6Value) → ((release6_of o).reducedcount ≡ length (reduceds_in o)) × ((release6_of o).randomcount ≡ length (randoms_in o))
count6 none = (refl, refl)
count6 (some v) = (refl, refl)

-- ## Release 7

-- what the writer asks of it
pub record Right7 (r : Release7) : Type 0 where
  pub few : r.markcount ≤ 4
  absent : pick r.hasRelease true (both (eqb r.markcount 0) (both (not r.hasUplink) (both (not r.hasAmr) (not r.hasSms)))) ≡ true
  pub marks : places_right any_mark not r.markcount r.marks ≡ true
  uplink : behind r.hasUplink r.uplink ≡ true
  hasFullrate : behind r.hasAmr r.hasFullrate ≡ true
  hasHalfrate : behind r.hasAmr r.hasHalfrate ≡ true
  pub fullrate : flagged_right r.hasFullrate r.fullrate 16 ≡ true
  pub halfrate : flagged_right r.hasHalfrate r.halfrate 16 ≡ true
  confidential : behind r.hasSms r.confidential ≡ true
  private : behind r.hasSms r.private ≡ true

pub right7 : (r : Release7) → release7_in_range r ≡ true → Right7 r
unfolding release7_in_range
right7 r e =
    let a = both_true (leb r.markcount 4) _ e in
    let b = both_true (pick r.hasRelease true (both (eqb r.markcount 0) (both (not r.hasUplink) (both (not r.hasAmr) (not r.hasSms))))) _ a.1 in
    let c = both_true (places_right any_mark not r.markcount r.marks) _ b.1 in
    let d = both_true (behind r.hasUplink r.uplink) _ c.1 in
    let g = both_true (amr_in_range r) _ d.1 in
    let h = both_true (behind r.hasAmr r.hasFullrate) _ g.0 in
    let j = both_true (behind r.hasAmr r.hasHalfrate) _ h.1 in
    let k = both_true (flagged_right r.hasFullrate r.fullrate 16) _ j.1 in
    let l = both_true (behind r.hasSms r.confidential) _ g.1 in
    record {
      few = leb-true r.markcount 4 a.0;
      absent = b.0;
      marks = c.0;
      uplink = d.0;
      hasFullrate = h.0;
      hasHalfrate = j.0;
      fullrate = k.0;
      halfrate = k.1;
      confidential = l.0;
      private = l.1;
    }

pub range7 : (r : Release7) → Right7 r → release7_in_range r ≡ true
unfolding release7_in_range
range7 r t =
    true-both (le-leb r.markcount 4 t.few)
    (true-both t.absent
    (true-both t.marks
    (true-both t.uplink
    (true-both (true-both t.hasFullrate (true-both t.hasHalfrate (true-both t.fullrate t.halfrate))) (true-both t.confidential t.private)))))

pub fits7 : (r : Release7) → Right7 r → OptFits (format release7) (there r.hasRelease (release7_value r))
fits7 r t = go r.hasRelease
  where
    rates : (h : Bool) → OptFits (format amr) (there h (amr_value r))
    rates false = tt
    rates true = (flag-fits r.hasFullrate r.fullrate 4 t.fullrate, flag-fits r.hasHalfrate r.halfrate 4 t.halfrate)

    bits : (h : Bool) → OptFits (format (number 1 and number 1)) (there h (as_bit r.confidential, as_bit r.private))
    bits false = tt
    bits true = (flag_lt r.confidential, flag_lt r.private)

    go : (h : Bool) → OptFits (format release7) (there h (release7_value r))
    go false = tt
    go true = (
      items-fit (num 1) as_bit any_mark (λ b e. flag_lt b) (take r.markcount r.marks) (places-good any_mark not r.markcount r.marks t.marks),
      (bit-fits r.hasUplink r.uplink, (rates r.hasAmr, bits r.hasSms)),
    )

-- a flagged number behind another flag
abbrev behind_flag : Bool → Option ℕ → Option ℕ
behind_flag h o = pick h o none

full-led : (h : Bool) (a : AmrValue) → full_rate (there h a) ≡ behind_flag h a.0
full-led true a = refl
full-led false a = refl

half-led : (h : Bool) (a : AmrValue) → half_rate (there h a) ≡ behind_flag h a.1
half-led true a = refl
half-led false a = refl

led-there : (h f : Bool) (v : ℕ) → behind h f ≡ true → is_there (behind_flag h (there f v)) ≡ f
led-there true f v e = there_back f v
led-there false f v e = sym (not-true f e)

led-zero : (h f : Bool) (v n : ℕ) → behind h f ≡ true → flagged_right f v n ≡ true → or_zero (behind_flag h (there f v)) ≡ v
led-zero true f v n e g = flag-zero f v n g
led-zero false f v n e g = flag-none f v n (not-true f e) g

first_bit : (h a : Bool) (y : ℕ) → behind h a ≡ true → confidentiality (there h (as_bit a, y)) ≡ a
first_bit true a y e = flag-back a
first_bit false a y e = sym (not-true a e)

second-bit : (h a : Bool) (x : ℕ) → behind h a ≡ true → privacy (there h (x, as_bit a)) ≡ a
second-bit true a x e = flag-back a
second-bit false a x e = sym (not-true a e)

pub back7 : (r : Release7) → Right7 r → length r.marks ≡ 4 → release7_of (there r.hasRelease (release7_value r)) ≡ r
back7 r t four = go r.hasRelease refl t.absent
  where
    go : (h : Bool) → r.hasRelease ≡ h → pick h true (both (eqb r.markcount 0) (both (not r.hasUplink) (both (not r.hasAmr) (not r.hasSms)))) ≡ true
        → release7_of (there h (release7_value r)) ≡ r
    go true o e =
        λ i.
        record {
          hasRelease = sym o i;
          markcount = in_use as_bit r.markcount 4 r.marks t.few four i;
          marks = places-back false any_mark not not-true is_one as_bit (λ b g. flag-back b) 4 r.markcount r.marks four t.marks i;
          hasUplink = there_back r.hasUplink (as_bit r.uplink) i;
          uplink = behind-bit r.hasUplink r.uplink t.uplink i;
          hasAmr = there_back r.hasAmr (amr_value r) i;
          hasFullrate = (ap is_there (full-led r.hasAmr (amr_value r)) ∙ led-there r.hasAmr r.hasFullrate r.fullrate t.hasFullrate) i;
          fullrate = (ap or_zero (full-led r.hasAmr (amr_value r)) ∙ led-zero r.hasAmr r.hasFullrate r.fullrate 16 t.hasFullrate t.fullrate) i;
          hasHalfrate = (ap is_there (half-led r.hasAmr (amr_value r)) ∙ led-there r.hasAmr r.hasHalfrate r.halfrate t.hasHalfrate) i;
          halfrate = (ap or_zero (half-led r.hasAmr (amr_value r)) ∙ led-zero r.hasAmr r.hasHalfrate r.halfrate 16 t.hasHalfrate t.halfrate) i;
          hasSms = there_back {A = ℕ × ℕ} r.hasSms (as_bit r.confidential, as_bit r.private) i;
          confidential = first_bit r.hasSms r.confidential (as_bit r.private) t.confidential i;
          private = second-bit r.hasSms r.private (as_bit r.confidential) t.private i;
        }
    go false o e =
        let a = both_true (eqb r.markcount 0) (both (not r.hasUplink) (both (not r.hasAmr) (not r.hasSms))) e in
        let b = both_true (not r.hasUplink) (both (not r.hasAmr) (not r.hasSms)) a.1 in
        let c = both_true (not r.hasAmr) (not r.hasSms) b.1 in
        let n = eqb-true r.markcount 0 a.0 in
        let u = not-true r.hasUplink b.0 in
        let v = not-true r.hasAmr c.0 in
        let w = not-true r.hasSms c.1 in
        let x = behind-none r.hasAmr r.hasFullrate v t.hasFullrate in
        let y = behind-none r.hasAmr r.hasHalfrate v t.hasHalfrate in
        λ i.
        record {
          hasRelease = sym o i;
          markcount = sym n i;
          marks = places-empty false any_mark not not-true 4 r.markcount r.marks four n t.marks i;
          hasUplink = sym u i;
          uplink = sym (behind-none r.hasUplink r.uplink u t.uplink) i;
          hasAmr = sym v i;
          hasFullrate = sym x i;
          fullrate = flag-none r.hasFullrate r.fullrate 16 x t.fullrate i;
          hasHalfrate = sym y i;
          halfrate = flag-none r.hasHalfrate r.halfrate 16 y t.halfrate i;
          hasSms = sym w i;
          confidential = sym (behind-none r.hasSms r.confidential w t.confidential) i;
          private = sym (behind-none r.hasSms r.private w t.private) i;
        }

rates-value : (o : Option AmrValue) → there (is_there o) (there (is_there (full_rate o)) (or_zero (full_rate o)), there (is_there (half_rate o)) (or_zero (half_rate o))) ≡ o
rates-value none = refl
rates-value (some a) = λ i. some (number-back a.0 i, number-back a.1 i)

bits-value : (o : Option (ℕ × ℕ)) → OptFits (format (number 1 and number 1)) o → there (is_there o) (as_bit (confidentiality o), as_bit (privacy o)) ≡ o
bits-value none f = refl
bits-value (some a) f = λ i. some (bit-back a.0 f.0 i, bit-back a.1 f.1 i)

pub value7 : (o : Option Release7Value) → OptFits (format release7) o → length (marks_in o) ≤ 4 → there (release7_of o).hasRelease (release7_value (release7_of o)) ≡ o
value7 none f h = refl
value7 (some v) f h =
    λ i.
    some (
      told_back (num 1) is_one false as_bit bit-back 4 v.0 f.0 h i,
      (bit-value v.1.0 f.1.0 i, (rates-value v.1.1.0 i, bits-value v.1.1.1 f.1.1.1 i)),
    )

-- each of the two AMR parts stands behind their flag, and each SMS bit behind theirs
full-behind : (o : Option AmrValue) → OptFits (format amr) o → (behind (is_there o) (is_there (full_rate o)) ≡ true) × (flagged_right (is_there (full_rate o)) (or_zero (full_rate o)) 16 ≡ true)
full-behind none f = (refl, refl)
full-behind (some a) f = (refl, fits-flag a.0 4 f.0)

half-behind : (o : Option AmrValue) → OptFits (format amr) o → (behind (is_there o) (is_there (half_rate o)) ≡ true) × (flagged_right (is_there (half_rate o)) (or_zero (half_rate o)) 16 ≡ true)
half-behind none f = (refl, refl)
half-behind (some a) f = (refl, fits-flag a.1 4 f.1)

bits-behind : (o : Option (ℕ × ℕ)) → (behind (is_there o) (confidentiality o) ≡ true) × (behind (is_there o) (privacy o) ≡ true)
bits-behind none = (refl, refl)
bits-behind (some a) = (refl, refl)

pub told7 : (o : Option Release7Value) → OptFits (format release7) o → length (marks_in o) ≤ 4 → Right7 (release7_of o)
unfolding places_right
told7 none f h =
    record {
      few = omega arith;
      absent = refl;
      marks = refl;
      uplink = refl;
      hasFullrate = refl;
      hasHalfrate = refl;
      fullrate = refl;
      halfrate = refl;
      confidential = refl;
      private = refl;
    }
told7 (some v) f h =
    let a = full-behind v.1.1.0 f.1.1.0 in
    let b = half-behind v.1.1.0 f.1.1.0 in
    let c = bits-behind v.1.1.1 in
    record {
      few = h;
      absent = refl;
      marks = told-places (num 1) is_one false any_mark not refl (λ b g. refl) 4 v.0 f.0;
      uplink = bit-behind v.1.0;
      hasFullrate = a.0;
      hasHalfrate = b.0;
      fullrate = a.1;
      halfrate = b.1;
      confidential = c.0;
      private = c.1;
    }

pub count7 : (o : Option Release7Value) → (release7_of o).markcount ≡ length (marks_in o)
count7 none = refl
count7 (some v) = refl

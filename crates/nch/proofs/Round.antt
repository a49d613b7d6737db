-- NT/N Rest Octets as bits: what was written is read back, and what was read stands in the octets. Assumes nothing.
use mathlib.Core.Path.{◌≡◌, refl, sym, ap, ◌∙◌, subst}
use mathlib.Core.List.{List, [], ◌∷◌, ◌++◌}
use mathlib.Core.Bool.{Bool, true, false}
use mathlib.Core.Option.{Option, none, some}
use Prim.Native.Nat.{ℕ, ◌+◌, ◌*◌, ◌≤◌, ◌<◌}
use native.Mathlib.Omega.{arith}
use lib.ListN.{length, replicate, length-append}
use lib.Dec.{leb, eqb}
use borrow.Author.Tests.{leb-true, le-leb, eqb-true, eq-eqb}
use Rattle.bits.specs.Field.{pick, bit}
use Rattle.csn1.specs.Format.{Res, ok, bad, ground, no_refusal, num, opt, OptFits, list, ◌⨟◌, release, pad_bit, Holds, Binary, ItemsFit}
use Rattle.csn1.specs.Grammar.{format}
use Rattle.csn1.specs.Promises.{Lawful, Grounded}
use Rattle.csn1.proofs.Holding.{length_put, bit_put_above, holds_put}
use Rattle.csn1.proofs.Lawful.{length-row}
use Rattle.csn1.proofs.Promises.{lawful, round}
use Rattle.csn1.proofs.Lists.{items-many}
use Rattle.csn1.proofs.Putting.{padding_bit}
use Rattle.bits.proofs.Answers.{both_true}
use Rattle.csn1.proofs.Telling.{picked, handed_on}
use Rattle.call.specs.Call.{call_grammar, group_call}
use Rattle.call.proofs.Record.{call_long}
use Rattle.nch.specs.declared.Notification.{Notification}
use Rattle.nch.specs.declared.Reading.{Reading}
use Rattle.nch.specs.Octets.{Value, Release6Value, rest_octets, notification, reduced, random, release6, release7, reduceds_in}
use Rattle.nch.specs.Told.{record_of, value_of, reading_of, read_of, Shaped}
use Rattle.nch.specs.Write.{record_refusal, form, form_fits, write_number, written}
use Rattle.nch.proofs.Numbering.{octets-numbered}
use Rattle.nch.proofs.Record.{Right, one_more, right, right-all, record_fits, record_back, Fits, fits, value-said, value-right}

-- ## The grammar keeps the laws

pub notification-lawful : Lawful notification
unfolding notification
notification-lawful = lawful rest_octets octets-numbered

-- ## What was written

pub length-written : (m : Notification) → length (written m) ≡ 20
unfolding written
length-written m = length_put (replicate 20 43) 0 (form m)

form-binary : (m : Notification) → Binary (form m)
unfolding form
form-binary m = notification-lawful.binary 160 0 (value_of m)

-- the form stands at the start of what was written
pub written-holds : (m : Notification) → length (form m) ≤ 160 → Holds (written m) 0 (form m)
unfolding written
written-holds m h = holds_put (replicate 20 43) 0 (form m) (form-binary m) (omega arith)

-- and padding behind it
pub written_padding : (m : Notification) (k : ℕ) → length (form m) ≤ k → k < 160 → bit (written m) k ≡ pad_bit k
unfolding written
written_padding m k h l = bit_put_above (replicate 20 43) 0 (form m) k (form-binary m) (omega arith) ∙ padding_bit 20 k l

-- the writer accepts what is right, where its form is not too long, and nothing else
pub accepted : (m : Notification) → write_number m 20 ≡ 0 → Right m × (length (form m) ≤ 160)
accepted m e =
    let a = handed_on (record_refusal m) (pick (form_fits m 20) 0 11) (sym (one_more m 20) ∙ e) in
    let b = picked (form_fits m 20) 0 11 (omega arith) a.1 in
    (right m a.0, leb-true (length (form m)) 160 (both_true (leb (length (form m)) 160) (eqb 20 20) b.0).0)

pub accepting : (m : Notification) → Right m → length (form m) ≤ 160 → write_number m 20 ≡ 0
accepting m t h = one_more m 20 ∙ rw (right-all m t, le-leb (length (form m)) 160 h)

module _ (m : Notification) (s : Shaped m) (t : Right m) (h : length (form m) ≤ 160) where
  form-read : notification.read (written m) 0 ≡ ok (value_of m) (length (form m))
  unfolding written form
  form-read =
      round notification notification-lawful (replicate 20 43) 0 (value_of m) 160 refl (record_fits m t s) (omega arith)
      ∙ ap (λ (q : ℕ). ok (value_of m) q) (omega arith)

  pub written_read : read_of (written m) ≡ record { refusal = no_refusal; used = length (form m); «record» = m }
  written_read =
      rw (eq-eqb (length (written m)) 20 (length-written m), form-read)
      (λ i. record { refusal = no_refusal; used = length (form m); «record» = record_back m t s i })

-- ## How much there is place for in 160 bits

length-left : (xs ys : List ℕ) → length xs ≤ length (xs ++ ys)
length-left xs ys = omega (arith, length-append xs ys)

length-right : (xs ys : List ℕ) → length ys ≤ length (xs ++ ys)
length-right xs ys = omega (arith, length-append xs ys)

reduced-long : (n p : ℕ) (a : List ℕ) → (format reduced).fits a → 28 ≤ length ((format reduced).bits n p a)
reduced-long n p a f = omega (arith, length-row (27 ∷ 1 ∷ []) a f.0)

-- at most 4 calls
pub four-calls : (v : Value) → ItemsFit group_call v.1.0 → length (notification.bits 160 0 v) ≤ 160 → length v.1.0 ≤ 4
unfolding notification group_call
four-calls v f h =
    let x : List ℕ = (opt (num 2)).bits 160 0 v.0 in
    let y : List ℕ = (list group_call).bits 160 (0 + length x) v.1.0 in
    let z : List ℕ = (release (format release6) ⨟ release (format release7)).bits 160 (0 + length x + length y) v.1.1 in
    omega (arith, length-right x (y ++ z), length-left y z, items-many group_call 37 (λ n p a g. call_long a g n p) 160 (0 + length x) v.1.0 f)

few-reduced : (p : ℕ) (o : Option Release6Value) → OptFits (format release6) o → length ((release (format release6)).bits 160 p o) ≤ 160 → length (reduceds_in o) ≤ 5
few-reduced p none f h = omega arith
few-reduced p (some v) f h =
    let x : List ℕ = (opt (num 2)).bits 160 (p + 1) v.0 in
    let y : List ℕ = (list (format reduced)).bits 160 (p + 1 + length x) v.1.0 in
    let z : List ℕ = (list (format random)).bits 160 (p + 1 + length x + length y) v.1.1 in
    omega (arith, length-right x (y ++ z), length-left y z, items-many (format reduced) 28 reduced-long 160 (p + 1 + length x) v.1.0 f.1.0)

-- at most 5 reduced references
pub five-reduced : (v : Value) → OptFits (format release6) v.1.1.0 → length (notification.bits 160 0 v) ≤ 160 → length (reduceds_in v.1.1.0) ≤ 5
unfolding notification
five-reduced v f h =
    let x : List ℕ = (opt (num 2)).bits 160 0 v.0 in
    let y : List ℕ = (list (format call_grammar)).bits 160 (0 + length x) v.1.0 in
    let z : List ℕ = (release (format release6)).bits 160 (0 + length x + length y) v.1.1.0 in
    let w : List ℕ = (release (format release7)).bits 160 (0 + length x + length y + length z) v.1.1.1 in
    few-reduced (0 + length x + length y) v.1.1.0 f (omega (arith, length-right x (y ++ (z ++ w)), length-right y (z ++ w), length-left z w))

-- ## What was read

-- an accepted message: what its record tells fits, and its bits stand at the message's start
pub record Accepted (s : List ℕ) (r : Reading) : Type 0 where
  pub value : Value
  pub told : r.«record» ≡ record_of value
  pub used : r.used ≡ length (notification.bits 160 0 value)
  pub fitting : Fits value
  pub holds : Holds s 0 (notification.bits 160 0 value)
  pub within : length (notification.bits 160 0 value) ≤ 160

pub read-accepted : (s : List ℕ) → (read_of s).refusal.number ≡ 0 → Accepted s (read_of s)
unfolding ground
read-accepted s z = go (eqb (length s) 20) (notification.read s 0) refl refl z
  where
    go : (t : Bool) (x : Res Value) → eqb (length s) 20 ≡ t → notification.read s 0 ≡ x
        → (reading_of (pick t x (bad (ground 1)))).refusal.number ≡ 0 → Accepted s (reading_of (pick t x (bad (ground 1))))
    go false x l e z = absurd (omega arith)
    go true (bad r) l e z = absurd (omega (arith, subst Grounded e (notification-lawful.grounds s 0)))
    go true (ok v q) l e z =
        let n : length s * 8 ≡ 160 = omega (arith, eqb-true (length s) 20 l) in
        let u = notification-lawful.stands s 0 v q (omega arith) e in
        let next : q ≡ 0 + length (notification.bits 160 0 v) = rw n at u.next in
        record {
          value = v;
          told = refl;
          used = omega arith;
          fitting = fits v u.fitting;
          holds = rw n at u.holds;
          within = omega (arith, u.within);
        }

module _ (s : List ℕ) (r : Reading) (a : Accepted s r) where
  four : length a.value.1.0 ≤ 4
  four = four-calls a.value a.fitting.calls a.within

  five : length (reduceds_in a.value.1.1.0) ≤ 5
  five = five-reduced a.value a.fitting.six a.within

  -- the record is right, and its written form is the bits that stand there
  pub again-right : Right r.«record»
  again-right = rw a.told (value-right a.value a.fitting four five)

  pub again-form : form r.«record» ≡ notification.bits 160 0 a.value
  unfolding form
  again-form =
      ap (λ (m : Notification). notification.bits 160 0 (value_of m)) a.told ∙ ap (notification.bits 160 0) (value-said a.value a.fitting four five)

  pub again-used : r.used ≡ length (form r.«record»)
  again-used = a.used ∙ sym (ap length again-form)

  pub again-short : length (form r.«record») ≤ 160
  again-short = rw again-form a.within

  pub again-holds : Holds s 0 (form r.«record»)
  again-holds = rw again-form a.holds

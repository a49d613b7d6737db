-- What the takers of Releases 6 and 7 go by: parts that were taken and end inside were read. Assumes nothing.
use mathlib.Core.Path.{◌≡◌, refl, sym, ap, ◌∙◌, subst}
use mathlib.Core.List.{List}
use mathlib.Core.Bool.{false, not}
use mathlib.Core.Option.{Option, none, some}
use Prim.Native.Nat.{ℕ, ◌+◌, ◌*◌, ◌≤◌, ◌<◌}
use native.Mathlib.Nat.{add-zero}
use native.Mathlib.Omega.{arith}
use mir.Val.{bool_byte}
use lib.ListN.{length, set, replicate}
use lib.Dec.{eqb}
use borrow.Author.Tests.{eq-eqb, ne_eqb}
use Rattle.bits.specs.Field.{field}
use Rattle.bits.proofs.Laws.{field_lt}
use Rattle.csn1.specs.declared.Flagged.{Flagged}
use Rattle.csn1.specs.Format.{ok, ◌then◌, no_refusal, num, opt, list, pad_bit, ◌⨟◌}
use Rattle.csn1.specs.Grammar.{Grammar, number, flagged, listed, format}
use Rattle.csn1.specs.Told.{is_there, or_zero, is_one, flagged_at, flagged_of, lead_at, lead_of}
use Rattle.csn1.proofs.Promises.{lawful}
use Rattle.csn1.proofs.Reading.{flagged-at, lead-at, lead-used, lead-coded, coded-told}
use Rattle.csn1.proofs.Answers.{Answer, answered}
use Rattle.arrays.specs.Runs.{stored}
use Rattle.arrays.specs.Inner.{Zeros, Left}
use Rattle.arrays.proofs.Running.{length_run}
use Rattle.arrays.proofs.Zeroed.{zeros-run, zeros-behind, left-ok, left-stored}
use Rattle.nch.specs.Octets.{amr, AmrValue, sms_bits, reduced, random, release6, release7}
use Rattle.nch.specs.Places.{release6_at, counted_at, reduceds_at, randoms_at, release7_at, marks_at, most_marks, uplinked_at, amr_at, fullrated_at, halfrated_at, sms_at}
use Rattle.nch.specs.NotificationNumbers.{mark_numbers}
use Rattle.nch.specs.Inner.{part_passed, list_passed, release6_passed, release7_passed, amr_run, sms_run, reduceds_run, randoms_run, marks_run, release6_run, release7_run}
use Rattle.nch.proofs.Lengths.{length_mark}
use Rattle.nch.proofs.Passed.{lists}
use Rattle.nch.proofs.Filled6 as six
use Rattle.nch.proofs.Filled7 as seven
use Rattle.words.specs.Unasked.{Took, took, ◌on◌, taken}
use Rattle.words.proofs.Promises.{what_ends_inside_is_read}
use Rattle.nch_words.specs.declared.lists.TakenList.{TakenList}
use Rattle.nch_words.specs.Inner.{FlagPut, AmrTaken, SmsTaken, list_done, part_done}
use Rattle.nch_words.proofs.Listing.{bit-here}

-- ## What leads a release

module _ (s : List ℕ) (t : length s ≡ 20) (p : ℕ) where
  pub lead-none : p ≡ 160 → record { refusal = no_refusal; high = false; at = p } ≡ lead_of (lead_at s p)
  lead-none e = sym (ap lead_of (lead-at s p (omega arith) ∙ lead-used s p (omega arith)))

  pub lead-bit : p < 160 → (b : ℕ) → b ≡ field s p 1 → (k : ℕ) → k ≡ pad_bit p → record { refusal = no_refusal; high = not (eqb b k); at = p + 1 } ≡ lead_of (lead_at s p)
  lead-bit h b e k f =
      ap (λ (z : ℕ). record { refusal = no_refusal; high = not (eqb b z); at = p + 1 }) f
      ∙ sym (ap lead_of (lead-at s p (omega arith)) ∙ lead-coded s p (λ z. omega arith) ∙ coded-told s p b (bit-here s t p (omega arith) b e))

-- ## A number led by a flag

module _ (s : List ℕ) (p k w place r : ℕ) (before after : List ℕ) (o : FlagPut s p k w place r before after) where
  -- as `csn1::read_flagged` tells it
  abbrev pub flag : Flagged
  flag = record { refusal = no_refusal; hasValue = is_there o.value; value = or_zero o.value; at = p + r }

  pub flag-read : w ≤ 64 → length s ≡ 20 → p + r ≤ 160 → flag ≡ flagged_of (flagged_at s (p + k) w)
  flag-read h t l =
      sym (ap flagged_of (flagged-at s (p + k) w h (omega arith) ∙ what_ends_inside_is_read _ (flagged (number w)) s (p + k) o.value (p + r) o.is (omega arith)))

-- ## Parts that a flag leads, of one window

-- the flag b is 0
pub part_none : {A : Type 0} (g : Grammar A) (run : Option A → List ℕ) (place n : ℕ) → run none ≡ replicate n 0
    → (s : List ℕ) (p k b : ℕ) → b ≡ field s (p + k) 1 → b ≡ 0 → (l : List ℕ) → Zeros l place → p + (k + 1) ≤ length s * 8
    → Left part_passed run place ((format (flagged g)).read s (p + k)) (part_done (p + (k + 1))) l l
part_none g run place n y s p k b e z l zs h =
    let m : p + k + 1 ≡ p + (k + 1) = omega arith in
    let x : taken (flagged g) s (p + k) ≡ took none (p + (k + 1)) = rw (← e, eq-eqb b 0 z) (ap (λ q. took none q) m) in
    left-ok part_passed run place ((format (flagged g)).read s (p + k)) l l none (p + (k + 1)) (part_done (p + (k + 1))) refl
    (what_ends_inside_is_read _ (flagged g) s (p + k) none (p + (k + 1)) x h) (sym (ap (stored l place) y ∙ zeros-run l place n zs))

module _ (s : List ℕ) (p k b : ℕ) (e : b ≡ field s (p + k) 1) (n : b ≡ 0 → ⊥) where
  pub sms_some : (v w : ℕ) → v ≡ field s (p + (k + 1)) 1 → w ≡ field s (p + (k + 2)) 1 → (l : List ℕ) → p + (k + 3) ≤ length s * 8
      → Left part_passed sms_run sms_at ((opt (num 1 ⨟ num 1)).read s (p + k)) (part_done (p + (k + 3))) l (set (set (set l sms_at 1) (sms_at + 1) v) (sms_at + 2) w)
  sms_some v w f g l h =
      let i : p + k + 1 ≡ p + (k + 1) = omega arith in
      let j : p + (k + 1) + 1 ≡ p + (k + 2) = omega arith in
      let m : p + (k + 2) + 1 ≡ p + (k + 3) = omega arith in
      let x : taken (flagged sms_bits) s (p + k) ≡ took (some (v, w)) (p + (k + 3)) = rw (← e, ne_eqb b 0 n, i, j, m, ← f, ← g) refl in
      left-ok part_passed sms_run sms_at ((opt (num 1 ⨟ num 1)).read s (p + k)) l (set (set (set l sms_at 1) (sms_at + 1) v) (sms_at + 2) w) (some (v, w)) (p + (k + 3)) (part_done (p + (k + 3))) refl
      (what_ends_inside_is_read _ (flagged sms_bits) s (p + k) (some (v, w)) (p + (k + 3)) x h)
      (seven.sms_stored l v w (omega (arith, f, field_lt s (p + (k + 1)) 1)) (omega (arith, g, field_lt s (p + (k + 2)) 1)))

  -- the full rate's part f, and the half rate's g
  module _ (l l2 l3 : List ℕ) (i r : ℕ) (f : FlagPut s p (k + 1) 4 fullrated_at i (set l amr_at 1) l2) (g : FlagPut s p i 4 halfrated_at r l2 l3) where
    abbrev rates : Took (Option ℕ) → Took (Option AmrValue)
    rates x = x on (λ a q. taken (flagged (number 4)) s q on λ c t. took (a, c) t) on λ a t. took (some a) t

    rates-taken : taken (flagged amr) s (p + k) ≡ took (some (f.value, g.value)) (p + r)
    rates-taken =
        let m : p + k + 1 ≡ p + (k + 1) = omega arith in
        let x : taken (flagged amr) s (p + k) ≡ rates (taken (flagged (number 4)) s (p + k + 1)) = rw (← e, ne_eqb b 0 n) refl in
        x ∙ ap rates (ap (λ (q : ℕ). taken (flagged (number 4)) s q) m ∙ f.is)
        ∙ ap (λ (y : Took (Option ℕ)). y on (λ c t. took (f.value, c) t) on λ a t. took (some a) t) g.is

    rates-stored : l3 ≡ stored l amr_at (amr_run (some (f.value, g.value)))
    rates-stored =
        g.left ∙ ap (λ (y : List ℕ). set (set y halfrated_at (bool_byte (is_there g.value))) (halfrated_at + 1) (or_zero g.value)) f.left
        ∙ seven.amr-stored l (flagged_of (ok f.value 0)) (flagged_of (ok g.value 0)) f.value g.value 0 0 refl refl

    pub amr-some : p + r ≤ length s * 8 → Left part_passed amr_run amr_at ((opt (format amr)).read s (p + k)) (part_done (p + r)) l l3
    amr-some h =
        left-ok part_passed amr_run amr_at ((opt (format amr)).read s (p + k)) l l3 (some (f.value, g.value)) (p + r) (part_done (p + r)) refl
        (what_ends_inside_is_read _ (flagged amr) s (p + k) (some (f.value, g.value)) (p + r) rates-taken h) rates-stored

-- ## Release 6 behind the H

module _ (s : List ℕ) (t : length s ≡ 20) (at : ℕ) (l : List ℕ) (y : Zeros l release6_at) (q : ℕ) (l1 : List ℕ) (o : FlagPut s at 0 2 counted_at q (set l release6_at 1) l1) (h : at + q ≤ 160)
    (d : TakenList) (l2 : List ℕ) (f : Left list_passed reduceds_run reduceds_at ((list (format reduced)).read s (at + q)) (list_done d) l1 l2) where
  count-read : flag s at 0 2 counted_at q (set l release6_at 1) l1 o ≡ flagged_of (flagged_at s at 2)
  count-read = flag-read s at 0 2 counted_at q (set l release6_at 1) l1 o (omega arith) t h ∙ ap (λ (z : ℕ). flagged_of (flagged_at s z 2)) (add-zero at)

  references : Left list_passed reduceds_run reduceds_at ((list (format reduced)).read s (at + q)) (list_done d)
      (set (set (set l release6_at 1) counted_at (bool_byte (is_there o.value))) (counted_at + 1) (or_zero o.value)) l2
  references = subst (λ (x : List ℕ). Left list_passed reduceds_run reduceds_at ((list (format reduced)).read s (at + q)) (list_done d) x l2) o.left f

  pub zeros_reduceds : Zeros l2 randoms_at
  zeros_reduceds = six.zeros_reduceds s at (omega arith) l y (flag s at 0 2 counted_at q (set l release6_at 1) l1 o) count-read refl (list_done d) l2 references refl

  pub six-done : (e : TakenList) (l3 : List ℕ) → Left list_passed randoms_run randoms_at ((list (format random)).read s d.at) (list_done e) l2 l3
      → Left release6_passed release6_run release6_at ((format release6).read s at then λ v k. ok (some v) k) (record { refusal = no_refusal; reduced = d.count; randoms = e.count; at = e.at }) l l3
  six-done e l3 g =
      six.parts-filled s at (omega arith) l y (flag s at 0 2 counted_at q (set l release6_at 1) l1 o) count-read refl (list_done d) l2 references refl (list_done e) l3 g refl no_refusal refl

-- ## Release 7 behind the H

module _ (s : List ℕ) (t : length s ≡ 20) (at : ℕ) (l : List ℕ) (y : Zeros l release7_at) (m : TakenList) (l1 : List ℕ)
    (em : Left list_passed marks_run marks_at ((list (num 1)).read s at) (list_done m) (set l release7_at 1) l1) where
  pub zeros-marks : Zeros l1 uplinked_at
  zeros-marks =
      let marked : Answer lists (list_done m) ((list (num 1)).read s at) =
      answered lists (list_done m) ((list (num 1)).read s at) em.0 ((lawful (listed (number 1)) tt).grounds s at) refl in
      zeros-behind (set l release7_at 1) l1 marks_at (1 + 1 * most_marks) (marks_run marked.value) (seven.zeros_led7 l y)
      (left-stored list_passed marks_run marks_at ((list (num 1)).read s at) (set l release7_at 1) l1 marked.value m.at marked.is em.1)
      (length_run mark_numbers 1 length_mark is_one false most_marks marked.value)

  -- the uplink u, the AMR parts and the SMS bits, each from the 64 bits x behind the marks
  pub seven-done : (x : ℕ) → x ≡ field s m.at 64
      → (i : ℕ) (l2 : List ℕ) (u : FlagPut s m.at 0 1 uplinked_at i l1 l2)
      → (j : ℕ) (l3 : List ℕ) → AmrTaken x i j l2 l3
      → (k : ℕ) (l4 : List ℕ) → SmsTaken x j k l3 l4
      → m.at + k ≤ 160
      → Left release7_passed release7_run release7_at ((format release7).read s at then λ v q. ok (some v) q) (record { refusal = no_refusal; count = m.count; at = m.at + k }) l l4
  seven-done x e i l2 u j l3 a k l4 b h =
      let n : i ≤ j = omega (arith, a.0) in
      let o : j ≤ k = omega (arith, b.0) in
      let f : Flagged = flag s m.at 0 1 uplinked_at i l1 l2 u in
      let ef : f ≡ flagged_of (flagged_at s m.at 1) =
      flag-read s m.at 0 1 uplinked_at i l1 l2 u (omega arith) t (omega arith) ∙ ap (λ (z : ℕ). flagged_of (flagged_at s z 1)) (add-zero m.at) in
      let ea : Left part_passed amr_run amr_at ((opt (format amr)).read s (m.at + i)) (part_done (m.at + j)) (seven.linked7 l1 f) l3 =
      subst (λ (z : List ℕ). Left part_passed amr_run amr_at ((opt (format amr)).read s (m.at + i)) (part_done (m.at + j)) z l3) u.left (a.1.1.1 s m.at e (omega arith)) in
      seven.parts-filled s at (omega arith) l y (list_done m) l1 em refl f ef refl (part_done (m.at + j)) l3 ea refl (part_done (m.at + k)) l4 (b.1.1 s m.at e (omega arith)) refl no_refusal refl

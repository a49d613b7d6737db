-- Release 7 read into an array of zeros: what its readers pass on, and what then stands in the array. Assumes nothing.
use mathlib.Core.Path.{◌≡◌, refl, sym, ap}
use mathlib.Core.List.{List, map}
use mathlib.Core.Bool.{false}
use mathlib.Core.Option.{Option, none, some}
use Prim.Native.Nat.{ℕ, ◌+◌, ◌*◌, ◌≤◌, ◌<◌}
use native.Mathlib.Omega.{arith}
use lib.ListN.{length, set, replicate, length-set}
use mir.Val.{bool_byte}
use Rattle.csn1.specs.declared.Refusal.{Refusal}
use Rattle.csn1.specs.declared.Flagged.{Flagged}
use Rattle.csn1.specs.Format.{Res, ok, bad, ◌then◌, no_refusal, renumbered, numbered_as, Format, num, opt, list, ◌⨟◌}
use Rattle.csn1.specs.Grammar.{number, ◌and◌, flagged, listed, format}
use Rattle.csn1.specs.Told.{as_bit, or_zero, is_one, flagged_at, flagged_of, or_false}
use Rattle.csn1.proofs.Lists.{length-padded}
use Rattle.csn1.proofs.Promises.{lawful}
use Rattle.csn1.proofs.Writing.{bit-back, flag_byte}
use Rattle.csn1.proofs.Callees.{flagged-refused, flagged_reached}
use Rattle.csn1.proofs.Answers.{Answer, answered, unanswered, flags, flag-answered, first-bad, then-bad, then_ok}
use Rattle.arrays.specs.Runs.{stored, each}
use Rattle.arrays.specs.Inner.{Zeros, Left}
use Rattle.arrays.proofs.Running.{length_run, stored_one}
use Rattle.arrays.proofs.Zeroed.{zeros-later, zeros-set, zeros-behind, left-bad, left-ok, left-stored}
use Rattle.nch.specs.declared.lists.ListPassed.{ListPassed}
use Rattle.nch.specs.declared.additions.PartPassed.{PartPassed}
use Rattle.nch.specs.Octets.{AmrValue, Release7Value, amr}
use Rattle.nch.specs.Told.{release7_of}
use Rattle.nch.specs.Places.{release7_at, marks_at, most_marks, uplinked_at, uplink_at, amr_at, fullrated_at, fullrate_at, halfrated_at, halfrate_at, sms_at, confidential_at, private_at}
use Rattle.nch.specs.Inner.{list_passed, part_passed, release7_passed, marks_run, amr_run, sms_run, release7_run}
use Rattle.nch.proofs.Ends.{release7_length, uplink_run}
use Rattle.nch.specs.NotificationNumbers.{mark_numbers, parts_numbers, release7_numbers}
use Rattle.nch.proofs.Passed.{lists, parts}
use Rattle.nch.proofs.Lengths.{length_mark}
use Rattle.nch.proofs.NotificationRuns.{release7_runs}

-- an absent Release 7 is as many zeros
pub no_numbers7 : release7_run none ≡ replicate release7_length 0
unfolding release7_numbers each mark_numbers parts_numbers
no_numbers7 = refl

-- ## The AMR and SMS parts, behind their flags

-- both AMR parts, full and half, as they were read
pub amr-stored : (l : List ℕ) (f h : Flagged) (v w : Option ℕ) (p q : ℕ) → f ≡ flagged_of (ok v p) → h ≡ flagged_of (ok w q)
    → set (set (set (set (set l amr_at 1) fullrated_at (bool_byte f.hasValue)) fullrate_at f.value) halfrated_at (bool_byte h.hasValue)) halfrate_at h.value
    ≡ stored l amr_at (amr_run (some (v, w)))
unfolding stored
amr-stored l f h v w p q x y = rw (flag_byte f.hasValue, flag_byte h.hasValue, x, y)

-- the two SMS bits
pub sms_stored : (l : List ℕ) (a b : ℕ) → a < 2 → b < 2 → set (set (set l sms_at 1) confidential_at a) private_at b ≡ stored l sms_at (sms_run (some (a, b)))
unfolding stored
sms_stored l a b x y = rw (bit-back a x, bit-back b y)

-- ## Priority Uplink Access

abbrev pub linked7 : List ℕ → Flagged → List ℕ
linked7 l u = set (set l uplinked_at (bool_byte u.hasValue)) uplink_at u.value

pub length-linked7 : (l : List ℕ) (u : Flagged) → length (linked7 l u) ≡ length l
length-linked7 l u = simp length-set

bit-of : (v : Option ℕ) → or_zero v < 2 → or_zero v ≡ as_bit (or_false v)
bit-of none h = refl
bit-of (some b) h = sym (bit-back b h)

uplink-stored : (l : List ℕ) (u : Flagged) (v : Option ℕ) (q : ℕ) → u ≡ flagged_of (ok v q) → or_zero v < 2 → linked7 l u ≡ stored l uplinked_at (uplink_run v)
unfolding stored
uplink-stored l u v q e h = rw (flag_byte u.hasValue, e, bit-of v h)

-- ## The parts behind the H

abbrev behind-uplink : Format (Option AmrValue × Option (ℕ × ℕ))
behind-uplink = opt (format amr) ⨟ opt (num 1 ⨟ num 1)

abbrev behind-marks : Format (Option ℕ × (Option AmrValue × Option (ℕ × ℕ)))
behind-marks = opt (num 1) ⨟ behind-uplink

abbrev all7 : Format Release7Value
all7 = list (num 1) ⨟ behind-marks

abbrev parts7 : Res Release7Value → Res (Option Release7Value)
parts7 x = numbered_as 15 x then λ v q. ok (some v) q

abbrev Left7 : List ℕ → ℕ → ListPassed → List ℕ → List ℕ → Type 0
Left7 s at r before after = Left release7_passed release7_run release7_at (parts7 (all7.read s at)) r before after

pub zeros_led7 : (l : List ℕ) → Zeros l release7_at → Zeros (set l release7_at 1) marks_at
zeros_led7 l y = zeros-set l marks_at release7_at 1 (omega arith) (zeros-later l release7_at marks_at (omega arith) y)

-- l, from zeros on, and the marks m
module _ (s : List ℕ) (at : ℕ) (h : length s ≤ 4096) (l : List ℕ) (y : Zeros l release7_at) (m : ListPassed) (l1 : List ℕ)
    (em : Left list_passed marks_run marks_at ((list (num 1)).read s at) m (set l release7_at 1) l1) where
  -- a refusal, w, of a part
  refused7 : (w : Refusal) → all7.read s at ≡ bad w → (r : ListPassed) → r ≡ list_passed {A = ℕ} (bad (renumbered 15 w)) → (after : List ℕ) → Left7 s at r l after
  refused7 w x r f after = left-bad release7_passed release7_run release7_at (parts7 (all7.read s at)) l after (renumbered 15 w) (renumbered 15 w) r f refl (ap parts7 x)

  pub marks-refused : (m.refusal.number ≡ 0 → ⊥) → (r : ListPassed) → r ≡ list_passed {A = ℕ} (bad (renumbered 15 m.refusal)) → (after : List ℕ) → Left7 s at r l after
  marks-refused n = refused7 m.refusal (first-bad (list (num 1)) behind-marks s at _ (unanswered lists m _ em.0 n))

  -- then the uplink, u
  module _ (zm : m.refusal.number ≡ 0) (u : Flagged) (eu : u ≡ flagged_of (flagged_at s m.at 1)) where
    marked : Answer lists m ((list (num 1)).read s at)
    marked = answered lists m ((list (num 1)).read s at) em.0 ((lawful (listed (number 1)) tt).grounds s at) zm

    marks-stored : l1 ≡ stored (set l release7_at 1) marks_at (marks_run marked.value)
    marks-stored = left-stored list_passed marks_run marks_at ((list (num 1)).read s at) (set l release7_at 1) l1 marked.value m.at marked.is em.1

    refused-behind : (w : Refusal) → behind-marks.read s m.at ≡ bad w → (r : ListPassed) → r ≡ list_passed {A = ℕ} (bad (renumbered 15 w)) → (after : List ℕ) → Left7 s at r l after
    refused-behind w x = refused7 w (then-bad (list (num 1)) behind-marks s at _ _ w marked.is x)

    pub uplink-refused : (u.refusal.number ≡ 0 → ⊥) → (r : ListPassed) → r ≡ list_passed {A = ℕ} (bad (renumbered 15 u.refusal)) → (after : List ℕ) → Left7 s at r l after
    uplink-refused n = refused-behind u.refusal (first-bad (opt (num 1)) behind-uplink s m.at _ (flagged-refused s m.at 1 (omega arith) h u eu n))

    module _ (zu : u.refusal.number ≡ 0) where
      linked : Answer flags u ((opt (num 1)).read s m.at)
      linked = flag-answered s m.at 1 (omega arith) h u eu zu

      pub zeros-linked : Zeros (linked7 l1 u) amr_at
      zeros-linked =
          let z : Zeros l1 uplinked_at =
          zeros-behind (set l release7_at 1) l1 marks_at (1 + 1 * most_marks) (marks_run marked.value) (zeros_led7 l y) marks-stored
          (length_run mark_numbers 1 length_mark is_one false most_marks marked.value) in
          zeros-set (set l1 uplinked_at (bool_byte u.hasValue)) amr_at uplink_at u.value (omega arith)
          (zeros-set l1 amr_at uplinked_at (bool_byte u.hasValue) (omega arith) (zeros-later l1 uplinked_at amr_at (omega arith) z))

      -- then the AMR parts, a
      module _ (a : PartPassed) (l2 : List ℕ) (ea : Left part_passed amr_run amr_at ((opt (format amr)).read s u.at) a (linked7 l1 u) l2) where
        pub amr-refused : (a.refusal.number ≡ 0 → ⊥) → (r : ListPassed) → r ≡ list_passed {A = ℕ} (bad (renumbered 15 a.refusal)) → (after : List ℕ) → Left7 s at r l after
        amr-refused n =
            refused-behind a.refusal
            (then-bad (opt (num 1)) behind-uplink s m.at _ _ _ linked.is (first-bad (opt (format amr)) (opt (num 1 ⨟ num 1)) s u.at _ (unanswered parts a _ ea.0 n)))

        module _ (za : a.refusal.number ≡ 0) where
          rated : Answer parts a ((opt (format amr)).read s u.at)
          rated = answered parts a ((opt (format amr)).read s u.at) ea.0 ((lawful (flagged amr) (tt, tt)).grounds s u.at) za

          rates-stored : l2 ≡ stored (linked7 l1 u) amr_at (amr_run rated.value)
          rates-stored = left-stored part_passed amr_run amr_at ((opt (format amr)).read s u.at) (linked7 l1 u) l2 rated.value a.at rated.is ea.1

          pub zeros-rated : Zeros l2 sms_at
          zeros-rated = zeros-behind (linked7 l1 u) l2 amr_at 5 (amr_run rated.value) zeros-linked rates-stored refl

          -- then the SMS bits, t
          module _ (t : PartPassed) (l3 : List ℕ) (et : Left part_passed sms_run sms_at ((opt (num 1 ⨟ num 1)).read s a.at) t l2 l3) where
            pub sms-refused : (t.refusal.number ≡ 0 → ⊥) → (r : ListPassed) → r ≡ list_passed {A = ℕ} (bad (renumbered 15 t.refusal)) → (after : List ℕ) → Left7 s at r l after
            sms-refused n =
                refused-behind t.refusal
                (then-bad (opt (num 1)) behind-uplink s m.at _ _ _ linked.is (then-bad (opt (format amr)) (opt (num 1 ⨟ num 1)) s u.at _ _ _ rated.is (unanswered parts t _ et.0 n)))

            -- all were there
            pub parts-filled : t.refusal.number ≡ 0 → (r : Refusal) → r ≡ no_refusal → Left7 s at (record { refusal = r; count = m.count; at = t.at }) l l3
            parts-filled zt r er =
                let sent : Answer parts t ((opt (num 1 ⨟ num 1)).read s a.at) =
                answered parts t ((opt (num 1 ⨟ num 1)).read s a.at) et.0 ((lawful (flagged (number 1 and number 1)) (tt, tt)).grounds s a.at) zt in
                let v : Release7Value = (marked.value, (linked.value, (rated.value, sent.value))) in
                left-ok release7_passed release7_run release7_at (parts7 (all7.read s at)) l l3 (some v) t.at (record { refusal = r; count = m.count; at = t.at })
                (λ i. record { refusal = er i; count = (marked.told i).count; at = t.at })
                (ap parts7
                (then_ok (list (num 1)) behind-marks s at _ _ _ _ marked.is
                (then_ok (opt (num 1)) behind-uplink s m.at _ _ _ _ linked.is
                (then_ok (opt (format amr)) (opt (num 1 ⨟ num 1)) s u.at _ _ _ _ rated.is sent.is))))
                (release7_runs (release7_of (some v)) (length-padded false most_marks (map is_one marked.value)) l (set l release7_at 1) l1 (linked7 l1 u) l2 l3
                (stored_one l release7_at 1) marks-stored
                (uplink-stored l1 u linked.value u.at linked.told (flagged_reached s m.at 1 linked.value u.at linked.is).small) rates-stored
                (left-stored part_passed sms_run sms_at ((opt (num 1 ⨟ num 1)).read s a.at) l2 l3 sent.value t.at sent.is et.1))

-- The whole notification read into an array of zeros: what its reader passes on, and what then stands in the array. Assumes nothing.
use mathlib.Core.Path.{◌≡◌, refl, sym, ap, ap₂, ◌∙◌}
use mathlib.Core.List.{List, [], ◌∷◌}
use mathlib.Core.Bool.{Bool, true, false}
use mathlib.Core.Option.{Option}
use Prim.Native.Nat.{ℕ, ◌+◌, ◌*◌, ◌≤◌, ◌<◌}
use native.Mathlib.Omega.{arith}
use lib.ListN.{length, get_or, set, replicate, length-set}
use lib.Dec.{eqb}
use mir.Val.{bool_byte}
use Rattle.bits.specs.Field.{pick}
use Rattle.csn1.specs.declared.Refusal.{Refusal}
use Rattle.csn1.specs.declared.Flagged.{Flagged}
use Rattle.csn1.specs.Format.{Res, ok, bad, ground, no_refusal, list, release}
use Rattle.csn1.specs.Grammar.{format}
use Rattle.csn1.specs.Promises.{Grounded}
use Rattle.csn1.specs.Told.{as_bit, is_there, or_zero, padded, flagged_at, flagged_of}
use Rattle.csn1.proofs.Writing.{flag_byte}
use Rattle.arrays.specs.Runs.{stored}
use Rattle.arrays.specs.Inner.{Zeros, Filled, Left}
use Rattle.arrays.proofs.Running.{stored-led, length_run}
use Rattle.arrays.proofs.Filling.{padded-whole}
use Rattle.arrays.proofs.Zeroed.{zeros-later, zeros-set, zeros-behind, zeros-run, zeros-cleared, over_zeros, left-bad, left-ok, left-stored}
use Rattle.call.specs.Call.{group_call, call_of, no_call}
use Rattle.nch.specs.declared.lists.CallsPassed.{CallsPassed}
use Rattle.nch.specs.declared.lists.ListPassed.{ListPassed}
use Rattle.nch.specs.declared.additions.Release6Passed.{Release6Passed}
use Rattle.nch.specs.declared.additions.PartPassed.{PartPassed}
use Rattle.nch.specs.Octets.{Value, notification, release6, release7, read_octets}
use Rattle.nch.specs.Told.{record_of, reading_of, read_of}
use Rattle.nch.specs.Places.{numbered_at, nln_at, calls_at, call_length, most_calls, release6_at, release7_at, used_at, all_length}
use Rattle.nch.specs.Inner.{calls_passed, part_passed, release6_passed, release7_passed, calls_run, release6_run, release7_run, all_run}
use Rattle.nch.proofs.Ends.{release6_length}
use Rattle.nch.specs.CallNumbers.{call_numbers}
use Rattle.nch.specs.NotificationNumbers.{numbers_of, read_numbers}
use Rattle.nch.proofs.Round.{notification-lawful}
use Rattle.nch.proofs.Whole as whole
use Rattle.nch.proofs.Lengths.{length-call}
use Rattle.nch.proofs.NotificationRuns.{length-six, all_runs, value-shaped, length-read}
use Rattle.nch.proofs.NotificationBack.{refused-zeros}

-- ## What the reader of the whole leaves

abbrev LeftAll : List ℕ → PartPassed → List ℕ → List ℕ → Type 0
LeftAll s r before after = Left part_passed all_run numbered_at (read_octets s) r before after

-- a refusal, v
unread : (s : List ℕ) (v : Refusal) → read_octets s ≡ bad v → (w : Refusal) → w ≡ v → (r : PartPassed) → r ≡ part_passed {A = ℕ} (bad w) → (before after : List ℕ) → LeftAll s r before after
unread s v e w f r p before after = left-bad part_passed all_run numbered_at (read_octets s) before after w v r p f e

pub not_twenty : (s : List ℕ) → (length s ≡ 20 → ⊥) → (w : Refusal) → w ≡ ground 1 → (r : PartPassed) → r ≡ part_passed {A = ℕ} (bad w) → (before after : List ℕ) → LeftAll s r before after
not_twenty s n = unread s (ground 1) (whole.not_twenty s n)

-- the NLN
abbrev led : List ℕ → Flagged → List ℕ
led l n = set (set l numbered_at (bool_byte n.hasValue)) nln_at n.value

pub length-led : (l : List ℕ) (n : Flagged) → length (led l n) ≡ length l
length-led l n = simp length-set

led-stored : (l : List ℕ) (n : Flagged) (v : Option ℕ) (q : ℕ) → n ≡ flagged_of (ok v q) → led l n ≡ stored l numbered_at (as_bit (is_there v) ∷ or_zero v ∷ [])
unfolding stored
led-stored l n v q e = rw (flag_byte n.hasValue, e)

pub zeros-led : (l : List ℕ) (n : Flagged) → Zeros l numbered_at → Zeros (led l n) calls_at
zeros-led l n z =
    zeros-set (set l numbered_at (bool_byte n.hasValue)) calls_at nln_at n.value (omega arith)
    (zeros-set l calls_at numbered_at (bool_byte n.hasValue) (omega arith) (zeros-later l numbered_at calls_at (omega arith) z))

-- l, from zeros on: the NLN n and the calls c were read
module _ (s : List ℕ) (t : length s ≡ 20) (l : List ℕ) (y : Zeros l numbered_at) (n : Flagged) (en : n ≡ flagged_of (flagged_at s 0 2)) (c : CallsPassed) (l1 : List ℕ)
    (ec : Left calls_passed calls_run calls_at ((list group_call).read s n.at) c (led l n) l1) where
  pub calls-refused : (c.refusal.number ≡ 0 → ⊥) → (r : PartPassed) → r ≡ part_passed {A = ℕ} (bad c.refusal) → (after : List ℕ) → LeftAll s r l after
  calls-refused z r p = unread s c.refusal (whole.calls-bad s t n en c ec.0 z) c.refusal refl r p l

  calls-stored : (z : c.refusal.number ≡ 0) → l1 ≡ stored (led l n) calls_at (calls_run (whole.called s t n en c ec.0 z).value)
  calls-stored z =
      let x = whole.called s t n en c ec.0 z in
      left-stored calls_passed calls_run calls_at ((list group_call).read s n.at) (led l n) l1 x.value c.at x.is ec.1

  pub zeros-calls : c.refusal.number ≡ 0 → Zeros l1 release6_at
  zeros-calls zc =
      let x = whole.called s t n en c ec.0 zc in
      zeros-behind (led l n) l1 calls_at (1 + call_length * most_calls) (calls_run x.value) (zeros-led l n y) (calls-stored zc)
      (length_run call_numbers call_length length-call call_of no_call most_calls x.value)

  -- then Release 6, a
  module _ (zc : c.refusal.number ≡ 0) (a : Release6Passed) (l2 : List ℕ) (ea : Left release6_passed release6_run release6_at ((release (format release6)).read s c.at) a l1 l2) where
    pub six-refused : (a.refusal.number ≡ 0 → ⊥) → (r : PartPassed) → r ≡ part_passed {A = ℕ} (bad a.refusal) → (after : List ℕ) → LeftAll s r l after
    six-refused z r p = unread s a.refusal (whole.six-bad s t n en c ec.0 zc a ea.0 z) a.refusal refl r p l

    six-stored : (z : a.refusal.number ≡ 0) → l2 ≡ stored l1 release6_at (release6_run (whole.sixth s t n en c ec.0 zc a ea.0 z).value)
    six-stored z =
        let x = whole.sixth s t n en c ec.0 zc a ea.0 z in
        left-stored release6_passed release6_run release6_at ((release (format release6)).read s c.at) l1 l2 x.value a.at x.is ea.1

    pub zeros-six : a.refusal.number ≡ 0 → Zeros l2 release7_at
    zeros-six za =
        let x = whole.sixth s t n en c ec.0 zc a ea.0 za in
        zeros-behind l1 l2 release6_at release6_length (release6_run x.value) (zeros-calls zc) (six-stored za) (length-six x.value)

    -- then Release 7, b
    module _ (za : a.refusal.number ≡ 0) (b : ListPassed) (l3 : List ℕ) (eb : Left release7_passed release7_run release7_at ((release (format release7)).read s a.at) b l2 l3) where
      pub seven-refused : (b.refusal.number ≡ 0 → ⊥) → (r : PartPassed) → r ≡ part_passed {A = ℕ} (bad b.refusal) → (after : List ℕ) → LeftAll s r l after
      seven-refused z r p = unread s b.refusal (whole.seven-bad s t n en c ec.0 zc a ea.0 za b eb.0 z) b.refusal refl r p l

      -- all parts were read
      module _ (zb : b.refusal.number ≡ 0) where
        pub few : c.ciphered + a.reduced ≤ 9
        few = whole.few s t n en c ec.0 zc a ea.0 za b eb.0 zb

        pub six-due : c.ciphered + a.reduced < a.randoms → (w : Refusal) → w ≡ ground 6 → (r : PartPassed) → r ≡ part_passed {A = ℕ} (bad w) → (after : List ℕ) → LeftAll s r l after
        six-due h w f r p = unread s (ground 6) (whole.six-due s t n en c ec.0 zc a ea.0 za b eb.0 zb h) w f r p l

        module _ (h : a.randoms ≤ c.ciphered + a.reduced) where
          pub seven-due : c.described < b.count → (w : Refusal) → w ≡ ground 7 → (r : PartPassed) → r ≡ part_passed {A = ℕ} (bad w) → (after : List ℕ) → LeftAll s r l after
          seven-due k w f r p = unread s (ground 7) (whole.seven-due s t n en c ec.0 zc a ea.0 za b eb.0 zb h k) w f r p l

          -- nothing is refused
          pub all-filled : b.count ≤ c.described → (r : Refusal) → r ≡ no_refusal → LeftAll s (record { refusal = r; at = b.at }) l l3
          all-filled k r er =
              let v = whole.said s t n en c ec.0 zc a ea.0 za b eb.0 zb in
              let nln = whole.led s t n en in
              let x = whole.seventh s t n en c ec.0 zc a ea.0 za b eb.0 zb in
              left-ok part_passed all_run numbered_at (read_octets s) l l3 v b.at (record { refusal = r; at = b.at }) (λ i. record { refusal = er i; at = b.at })
              (whole.none-due s t n en c ec.0 zc a ea.0 za b eb.0 zb h k)
              (all_runs (record_of v) (value-shaped v) l (led l n) l1 l2 l3 (led-stored l n nln.value n.at nln.told) (calls-stored zc) (six-stored za)
              (left-stored release7_passed release7_run release7_at ((release (format release7)).read s a.at) l2 l3 x.value b.at x.is eb.1))

-- ## In an array of any length

pub zeros_in : (n : ℕ) (l : List ℕ) → l ≡ padded 0 n [] → Zeros l numbered_at
zeros_in n l e k m = ap (λ (x : List ℕ). get_or x k 0) e ∙ zeros-cleared n k (omega arith)

-- the refusal that is passed on is that of the reading
pub refusal-read : (s : List ℕ) (r : PartPassed) → r ≡ part_passed (read_octets s) → r.refusal ≡ (read_of s).refusal
refusal-read s r e = ap (λ (x : PartPassed). x.refusal) e ∙ go (read_octets s)
  where
    go : (x : Res Value) → (part_passed x).refusal ≡ (reading_of x).refusal
    go (ok v q) = refl
    go (bad w) = refl

grounded : (s : List ℕ) → Grounded (read_octets s)
unfolding ground
grounded s = go (eqb (length s) 20)
  where
    go : (t : Bool) → Grounded (pick t (notification.read s 0) (bad (ground 1)))
    go true = notification-lawful.grounds s 0
    go false = omega arith

-- what is read stands in zeros, with the number of bits used before it
pub filled_in : (s : List ℕ) (n : ℕ) (l l' : List ℕ) (r : PartPassed) → l ≡ padded 0 n [] → LeftAll s r l l' → r.refusal.number ≡ 0
    → set l' used_at r.at ≡ padded 0 n (read_numbers s)
unfolding read_numbers
filled_in s n l l' r e f z = go (read_octets s) (grounded s) f.0 f.1
  where
    go : (x : Res Value) → Grounded x → r ≡ part_passed x → Filled all_run numbered_at x l l'
        → set l' used_at r.at ≡ padded 0 n ((reading_of x).used ∷ numbers_of (reading_of x).«record»)
    go (ok v q) g p o =
        ap₂ (λ (x : List ℕ) (k : ℕ). set x used_at k) o (ap (λ (x : PartPassed). x.at) p)
        ∙ stored-led l used_at q (numbers_of (record_of v))
        ∙ ap (λ (x : List ℕ). stored x used_at (q ∷ numbers_of (record_of v))) e ∙ over_zeros n (q ∷ numbers_of (record_of v))
    go (bad w) g p o = absurd (let m : r.refusal.number ≡ w.number = ap (λ (x : PartPassed). x.refusal.number) p in omega arith)

-- what is refused leaves zeros
pub cleared_away : (s : List ℕ) (n m : ℕ) → m ≡ n → ((read_of s).refusal.number ≡ 0 → ⊥) → padded 0 m [] ≡ padded 0 n (read_numbers s)
cleared_away s n m e h =
    ap (λ (k : ℕ). padded 0 k []) e
    ∙ sym
    (ap (padded 0 n) (refused-zeros s h)
    ∙ sym (over_zeros n (replicate all_length 0)) ∙ zeros-run (padded 0 n []) 0 all_length (zeros-cleared n))

-- as many places as there are numbers hold all, and n hold as many as they are
pub as_many : (s : List ℕ) (n : ℕ) (all : List ℕ) → all ≡ padded 0 all_length (read_numbers s) → padded 0 n all ≡ padded 0 n (read_numbers s)
as_many s n all e = ap (padded 0 n) (e ∙ ap (λ (k : ℕ). padded 0 k (read_numbers s)) (sym (length-read s)) ∙ padded-whole 0 (read_numbers s))

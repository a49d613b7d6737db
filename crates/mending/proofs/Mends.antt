-- What is copied, told as fields: a refused field leaves the run where it was, so that the others are answered the same without it. Assumes nothing.
use mathlib.Core.Path.{◌≡◌, refl, sym, ap, ◌∙◌}
use mathlib.Core.Bool.{Bool, true, false}
use mathlib.Core.List.{List, [], ◌∷◌, ◌++◌, append-nil}
use mathlib.Core.Option.{Option, none, some}
use native.Mathlib.Omega.{arith}
use borrow.Author.Tests.{eqb-true, eqb-false, eq-eqb, leb-true}
use Prim.Native.Nat.{ℕ, zero, suc, ◌+◌, ◌*◌, ◌/◌, ◌%◌, ◌≤◌, ◌<◌}
use lib.ListN.{length, take, drop, take-append-drop, length-drop}
use lib.Seq.{length-take-le, get_or-drop}
use lib.Dec.{eqb, leb}
use Rattle.bits.specs.Field.{both, pick}
use Rattle.receiver.specs.declared.Receiver.{Receiver}
use Rattle.receiver.specs.Step.{Event}
use Rattle.receiver.proofs.Cases.{by-test}
use Rattle.isolation.proofs.Promises.{a_refused_event_changes_nothing}
use Rattle.capture.specs.Capture.{Field, field_octets, head_length, length_in, is_whole, first_field, behind_first, Part, whole, torn, parts_from, parts_of}
use Rattle.capture.specs.Replay.{Said, accepts, event_in, said_to, said_of, receiver_after, Stage, before, running, over, is_over, stage_after, line_text, next_number, text_from, header, replay_of}
use Rattle.capture.specs.Mend.{copy_of, list_of, next_offset, Parted, nothing, ahead, mend_from, mend_of}
use Rattle.capture.specs.Promises.{capture_of}
use Rattle.mending.specs.Cuts.{cuts_from, together, copied_of, listed_of}
use Rattle.mending.specs.Promises.{saids_from, numbered, accepted, Clean, Octets}
use Rattle.mending.specs.Promises.{TheReplayIsTheAnswersNumbered, WhatIsMendedReplaysAsWhatWasAccepted, ACleanCaptureComesBack, MendingTwiceIsMendingOnce, NothingIsLost}
use Rattle.capture.proofs.Framing.{wholes, all-parts}

no_number : {A : Type 0} (n : ℕ) → suc n ≡ 0 → A
no_number n e = absurd (omega arith)

-- ## A field that is refused, and one that is not

heard-stays : (r : Receiver) (tag : ℕ) (x : Option Event) → ((said_to r tag x).refusal ≡ 0 → ⊥) → receiver_after r x ≡ r
heard-stays r tag none n = refl
heard-stays r tag (some e) n = a_refused_event_changes_nothing r e n

refused-stays : (f : Field) (r : Receiver) → ((said_of (whole f) (running r)).refusal ≡ 0 → ⊥) → stage_after (whole f) (running r) ≡ running r
refused-stays f r n =
    by-test (eqb f.tag 0) (λ p. rw p)
    (λ p.
    let m : (said_to r f.tag (event_in f)).refusal ≡ 0 → ⊥ = rw p at n in
    rw p (ap running (heard-stays r f.tag (event_in f) m)))

first_ends : (f : Field) → ((said_of (whole f) before).refusal ≡ 0 → ⊥) → stage_after (whole f) before ≡ over
first_ends f n = by-test (accepts f) (λ p. absurd (n (rw p))) (λ p. rw p)

clean-goes : (f : Field) (st : Stage) → is_over st ≡ false → (said_of (whole f) st).refusal ≡ 0 → is_over (stage_after (whole f) st) ≡ false
clean-goes f before o e = by-test (accepts f) (λ p. rw p) (λ p. let z : 17 ≡ 0 = rw p at e in no_number 16 z)
clean-goes f (running r) o e = by-test (eqb f.tag 0) (λ p. rw p) (λ p. rw p)
clean-goes f over o e = absurd (let z : ◌≡◌ {A = ℕ} 0 1 = cc in (omega arith))

-- ## What is copied, as fields

kept_fields : Stage → List Part → List Field
kept_fields st [] = []
kept_fields st (torn t ∷ ps) = []
kept_fields st (whole f ∷ ps) =
    pick (is_over st) [] (pick (eqb (said_of (whole f) st).refusal 0) (f ∷ kept_fields (stage_after (whole f) st) ps) (kept_fields (stage_after (whole f) st) ps))

over_none : (n offset : ℕ) (ps : List Part) → mend_from n offset over ps ≡ nothing
unfolding mend_from
over_none n offset [] = refl
over_none n offset (p ∷ ps) = refl

copied_fields : (n offset : ℕ) (st : Stage) (ps : List Part) → (mend_from n offset st ps).copied ≡ capture_of (kept_fields st ps)
unfolding mend_from capture_of kept_fields
copied_fields n offset st [] = refl
copied_fields n offset st (torn t ∷ ps) =
    by-test (is_over st) (λ o. rw o) (λ o. rw o (ap (λ (x : Parted). x.copied) (over_none (next_number n) offset ps)))
copied_fields n offset st (whole f ∷ ps) =
    by-test (is_over st) (λ o. rw o)
    (λ o.
    let i = copied_fields (next_number n) (next_offset offset (whole f)) (stage_after (whole f) st) ps in
    by-test (eqb (said_of (whole f) st).refusal 0) (λ e. rw (o, e) (ap (λ (s : List ℕ). field_octets f ++ s) i)) (λ e. rw (o, e) i))

-- ## What they are answered with

none_over : (ps : List Part) → saids_from over ps ≡ []
unfolding saids_from
none_over [] = refl
none_over (p ∷ ps) = refl

kept-over : (ps : List Part) → kept_fields over ps ≡ []
unfolding kept_fields
kept-over [] = refl
kept-over (torn t ∷ ps) = refl
kept-over (whole f ∷ ps) = refl

kept-saids : (ps : List Part) (st : Stage) → saids_from st (wholes (kept_fields st ps)) ≡ accepted (saids_from st ps)
unfolding saids_from accepted kept_fields wholes
kept-saids [] st = refl
kept-saids (torn t ∷ ps) st = by-test (is_over st) (λ o. rw o) (λ o. rw o (sym (ap accepted (none_over ps))))
kept-saids (whole f ∷ ps) over = refl
kept-saids (whole f ∷ ps) before =
    by-test (eqb (said_of (whole f) before).refusal 0)
    (λ e. rw e (ap (λ (bs : List Said). said_of (whole f) before ∷ bs) (kept-saids ps (stage_after (whole f) before))))
    (λ e.
    let o = first_ends f (eqb-false (said_of (whole f) before).refusal 0 e) in
    rw (e, o, kept-over ps, none_over ps))
kept-saids (whole f ∷ ps) (running r) =
    by-test (eqb (said_of (whole f) (running r)).refusal 0)
    (λ e. rw e (ap (λ (bs : List Said). said_of (whole f) (running r) ∷ bs) (kept-saids ps (stage_after (whole f) (running r)))))
    (λ e.
    let o = refused-stays f r (eqb-false (said_of (whole f) (running r)).refusal 0 e) in
    rw (e, o) (kept-saids ps (running r)))

texts : (n : ℕ) (st : Stage) (ps : List Part) → text_from n st ps ≡ numbered n (saids_from st ps)
unfolding text_from numbered saids_from
texts n st [] = refl
texts n st (p ∷ ps) = by-test (is_over st) (λ o. rw o) (λ o. rw o (ap (λ (s : List ℕ). line_text n (said_of p st) ++ s) (texts (next_number n) (stage_after p st) ps)))

pub the_replay_is_the_answers_numbered : TheReplayIsTheAnswersNumbered
unfolding replay_of
the_replay_is_the_answers_numbered s = ap (λ (t : List ℕ). header ++ t) (texts 1 before (parts_of s))

parts-of : (fs : List Field) → parts_of (capture_of fs) ≡ wholes fs
unfolding parts_of
parts-of fs = all-parts fs (length (capture_of fs)) (omega arith)

mended_is : (s : List ℕ) → (mend_of s).copied ≡ capture_of (kept_fields before (parts_of s))
unfolding mend_of
mended_is s = copied_fields 1 0 before (parts_of s)

pub what_is_mended_replays_as_what_was_accepted : WhatIsMendedReplaysAsWhatWasAccepted
what_is_mended_replays_as_what_was_accepted s =
    let fs : List Field = kept_fields before (parts_of s) in
    ap replay_of (mended_is s) ∙ the_replay_is_the_answers_numbered (capture_of fs)
    ∙ ap (λ (bs : List Said). header ++ numbered 1 bs) (ap (saids_from before) (parts-of fs) ∙ kept-saids (parts_of s) before)

-- ## Clean ones

accepted-clean : (bs : List Said) → Clean (accepted bs)
unfolding accepted
accepted-clean [] = tt
accepted-clean (a ∷ bs) = by-test (eqb a.refusal 0) (λ e. rw e (eqb-true a.refusal 0 e, accepted-clean bs)) (λ e. rw e (accepted-clean bs))

-- fields that are all accepted are copied, and nothing is listed
clean_mend : (fs : List Field) (n offset : ℕ) (st : Stage) → is_over st ≡ false → Clean (saids_from st (wholes fs)) → mend_from n offset st (wholes fs) ≡ record { copied = capture_of fs; listed = [] }
unfolding mend_from saids_from wholes capture_of
clean_mend [] n offset st o c = refl
clean_mend (f ∷ fs) n offset st o c =
    let d : ((said_of (whole f) st).refusal ≡ 0) × Clean (saids_from (stage_after (whole f) st) (wholes fs)) = rw o at c in
    let e : eqb (said_of (whole f) st).refusal 0 ≡ true = eq-eqb (said_of (whole f) st).refusal 0 d.0 in
    rw (o, e)
    (ap (λ (p : Parted). record { copied = field_octets f ++ p.copied; listed = p.listed })
    (clean_mend fs (next_number n) (next_offset offset (whole f)) (stage_after (whole f) st) (clean-goes f st o d.0) d.1))

pub mending_twice_is_mending_once : MendingTwiceIsMendingOnce
unfolding mend_of
mending_twice_is_mending_once s =
    let fs : List Field = kept_fields before (parts_of s) in
    let m : (mend_from 1 0 before (parts_of s)).copied ≡ capture_of fs = copied_fields 1 0 before (parts_of s) in
    let c : Clean (saids_from before (wholes fs)) = rw (kept-saids (parts_of s) before) (accepted-clean (saids_from before (parts_of s))) in
    rw (m, parts-of fs) (clean_mend fs 1 0 before refl c)

-- ## The octets of a field

head-octets : (b c : ℕ) → c < 256 → ((b * 256 + c) / 256 ≡ b) × ((b * 256 + c) % 256 ≡ c)
head-octets b c h = (omega arith, omega arith)

second : (a b : Bool) → both a b ≡ true → b ≡ true
second true b e = e
second false b e = absurd (let z : ◌≡◌ {A = ℕ} 0 1 = cc in (omega arith))

pub octets_are : (s : List ℕ) → Octets s → is_whole s ≡ true → field_octets (first_field s) ≡ take (head_length + length_in s) s
unfolding field_octets
octets_are [] o w = absurd (let z : ◌≡◌ {A = ℕ} 0 1 = cc in (omega arith))
octets_are (t ∷ []) o w = absurd (let z : ◌≡◌ {A = ℕ} 0 1 = cc in (omega arith))
octets_are (t ∷ b ∷ []) o w = absurd (let z : ◌≡◌ {A = ℕ} 0 1 = cc in (omega arith))
octets_are (t ∷ b ∷ c ∷ s) o w = here
  where
    there : b * 256 + c ≤ length s
    there =
        let v = second (leb head_length (suc (suc (suc (length s))))) (leb (head_length + (b * 256 + c)) (suc (suc (suc (length s))))) w in
        omega (arith, leb-true (head_length + (b * 256 + c)) (suc (suc (suc (length s)))) v)

    here : field_octets (first_field (t ∷ b ∷ c ∷ s)) ≡ take (head_length + length_in (t ∷ b ∷ c ∷ s)) (t ∷ b ∷ c ∷ s)
    here =
        let n : length (take (b * 256 + c) s) ≡ b * 256 + c = length-take-le (b * 256 + c) s there in
        let q = head-octets b c (o 2) in
        let z : 3 + (b * 256 + c) ≡ suc (suc (suc (b * 256 + c))) = omega arith in
        rw (n, q.0, q.1, z)

whole_again : (s : List ℕ) → Octets s → is_whole s ≡ true → field_octets (first_field s) ++ behind_first s ≡ s
whole_again s o w = rw (octets_are s o w) (take-append-drop (head_length + length_in s) s)

pub octets-behind : (s : List ℕ) (n : ℕ) → Octets s → Octets (drop n s)
octets-behind s n o i = rw (get_or-drop n s i 0) (o (n + i))

length-field : (f : Field) → head_length + length f.contents ≡ length (field_octets f)
unfolding field_octets
length-field f = omega arith

-- ## A capture that is clean

fields_of : List Part → List Field
fields_of [] = []
fields_of (whole f ∷ ps) = f ∷ fields_of ps
fields_of (torn t ∷ ps) = fields_of ps

behind-length : (t : ℕ) (s : List ℕ) (k : ℕ) → length (t ∷ s) ≤ suc k → length (behind_first (t ∷ s)) ≤ k
behind-length t s k h = rw length-drop (omega arith)

clean-parts : (k : ℕ) (s : List ℕ) (st : Stage) → length s ≤ k → Octets s → is_over st ≡ false → Clean (saids_from st (parts_from k s))
    → (wholes (fields_of (parts_from k s)) ≡ parts_from k s) × (capture_of (fields_of (parts_from k s)) ≡ s)
unfolding parts_from fields_of wholes capture_of saids_from
clean-parts zero [] st h o g c = (refl, refl)
clean-parts zero (t ∷ s) st h o g c = absurd (omega arith)
clean-parts (suc k) [] st h o g c = (refl, refl)
clean-parts (suc k) (t ∷ s) st h o g c =
    by-test (is_whole (t ∷ s))
    (λ w.
    let f : Field = first_field (t ∷ s) in
    let b : List ℕ = behind_first (t ∷ s) in
    let d : ((said_of (whole f) st).refusal ≡ 0) × Clean (saids_from (stage_after (whole f) st) (parts_from k b)) = rw (w, g) at c in
    let i = clean-parts k b (stage_after (whole f) st) (behind-length t s k h) (octets-behind (t ∷ s) (head_length + length_in (t ∷ s)) o) (clean-goes f st g d.0) d.1 in
    (rw w (ap (λ (ps : List Part). whole f ∷ ps) i.0), rw w (ap (λ (x : List ℕ). field_octets f ++ x) i.1 ∙ whole_again (t ∷ s) o w)))
    (λ w.
    let d : (18 ≡ 0) × Clean (saids_from over []) = rw (w, g) at c in
    no_number 17 d.0)

pub a_clean_capture_comes_back : ACleanCaptureComesBack
unfolding mend_of parts_of
a_clean_capture_comes_back s o c =
    let p = clean-parts (length s) s before (omega arith) o refl c in
    let fs : List Field = fields_of (parts_from (length s) s) in
    let d : Clean (saids_from before (wholes fs)) = rw p.0 c in
    ap (mend_from 1 0 before) (sym p.0) ∙ clean_mend fs 1 0 before refl d ∙ ap (λ (x : List ℕ). record { copied = x; listed = [] }) p.1

-- ## The input cut into its parts

cut-together : (k : ℕ) (s : List ℕ) (st : Stage) → length s ≤ k → together (cuts_from k st s) ≡ s
unfolding cuts_from together
cut-together zero [] st h = refl
cut-together zero (t ∷ s) st h = absurd (omega arith)
cut-together (suc k) [] st h = refl
cut-together (suc k) (t ∷ s) st h =
    let n : ℕ = head_length + length_in (t ∷ s) in
    let st' : Stage = stage_after (whole (first_field (t ∷ s))) st in
    by-test (is_whole (t ∷ s))
    (λ w.
    by-test (is_over (stage_after (whole (first_field (t ∷ s))) st)) (λ e. rw (w, e) (append-nil (t ∷ s)))
    (λ e.
    rw (w, e)
    (ap (λ (x : List ℕ). take n (t ∷ s) ++ x) (cut-together k (behind_first (t ∷ s)) st' (behind-length t s k h)) ∙ take-append-drop n (t ∷ s))))
    (λ w. rw w (append-nil (t ∷ s)))

pub over-after : (n offset : ℕ) (st : Stage) (ps : List Part) → is_over st ≡ true → mend_from n offset st ps ≡ nothing
unfolding mend_from
over-after n offset st [] e = refl
over-after n offset st (p ∷ ps) e = rw e

-- what ends the run is refused
ends-refused : (f : Field) (st : Stage) → is_over st ≡ false → is_over (stage_after (whole f) st) ≡ true → eqb (said_of (whole f) st).refusal 0 ≡ false
ends-refused f st o e =
    by-test (eqb (said_of (whole f) st).refusal 0)
    (λ p. let g = clean-goes f st o (eqb-true (said_of (whole f) st).refusal 0 p) in absurd (two (sym g ∙ e)))
    (λ p. p)
  where
    two : ◌≡◌ {A = Bool} false true → ⊥
    two e = let z : ◌≡◌ {A = ℕ} 0 1 = cc in omega arith

cut_mended : (k : ℕ) (s : List ℕ) (n offset : ℕ) (st : Stage) → length s ≤ k → Octets s → is_over st ≡ false
    → mend_from n offset st (parts_from k s) ≡ record { copied = copied_of (cuts_from k st s); listed = listed_of n offset (cuts_from k st s) }
unfolding parts_from mend_from cuts_from copied_of listed_of
cut_mended zero [] n offset st h o g = refl
cut_mended zero (t ∷ s) n offset st h o g = absurd (omega arith)
cut_mended (suc k) [] n offset st h o g = refl
cut_mended (suc k) (t ∷ s) n offset st h o g =
    let f : Field = first_field (t ∷ s) in
    let then : Stage = stage_after (whole f) st in
    by-test (is_whole (t ∷ s))
    (λ w.
    by-test (is_over (stage_after (whole (first_field (t ∷ s))) st))
    (λ e. rw (w, g, e, ends-refused f st g e, over-after (next_number n) (next_offset offset (whole f)) then (parts_from k (behind_first (t ∷ s))) e))
    (λ e.
    let i = cut_mended k (behind_first (t ∷ s)) (next_number n) (next_offset offset (whole f)) then (behind-length t s k h)
    (octets-behind (t ∷ s) (head_length + length_in (t ∷ s)) o) e in
    rw (w, g, e, ← octets_are (t ∷ s) o w, ← length-field f)
    (ap (λ (p : Parted). ahead (copy_of (whole f) st) (list_of n offset (said_of (whole f) st)) p) i)))
    (λ w. rw (w, g))

pub nothing_is_lost : NothingIsLost
unfolding mend_of parts_of
nothing_is_lost s o = (cut-together (length s) s before (omega arith), cut_mended (length s) s 1 0 before (omega arith) o refl)

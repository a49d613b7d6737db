-- A long field is answered the same by its first octets: what stands behind them is never looked at. Assumes nothing.
use Rattle.std.proofs.Common.{◌≡◌, ℕ, ◌-◌, ◌%◌, ◌<◌, ◌≤◌, min, Bool, true, false, eqb, leb, List, length, take, drop, sym, refl, ap, ◌∙◌, arith, length-drop, length-take, take_all}
use Rattle.std.proofs.Common.{get_or-take, ne_eqb, eqb-true, le-leb, leb-false, leb-true}
use mathlib.Core.Option.{none, some}
use borrow.Author.Tests.{eqb-false, lt-leb}
use Rattle.bits.specs.Field.{both, pick}
use Rattle.csn1.specs.declared.Refusal.{Refusal}
use Rattle.csn1.specs.Format.{ground}
use Rattle.nch.specs.Told.{read_of}
use Rattle.facch.specs.Told.{read_of as readFacch}
use Rattle.receiver.specs.declared.Receiver.{Receiver}
use Rattle.receiver.specs.declared.Answer.{Answer}
use Rattle.receiver.specs.Channels.{key_count}
use Rattle.receiver.specs.Model.{late, setup_right, started_of}
use Rattle.receiver.specs.Step.{Event, nch, facch, refusal_of, refused_with, step_of}
use Rattle.receiver.proofs.Cases.{by-test}
use Rattle.layout.specs.Octets.{tabulate}
use Rattle.layout.proofs.Numbers.{length-table}
use Rattle.capture.specs.Capture.{be_at, whole}
use Rattle.capture.specs.Replay.{tick_length, tick_in, event_by, is_setup, keys_count, key_in, sorted, keys_of, start_in, accepts, said_by, said_to, receiver_after, Stage, before, running}
use Rattle.capture.specs.Replay.{over, said_of, stage_after}
use Rattle.capture.proofs.Answering.{event-1, event-2, event-none}
use Rattle.capture.proofs.Sorting.{length-sorted}

-- the contents that are kept of a field
abbrev pub most : ℕ
most = 209

-- ## Messages of no possible length

-- 9, then 1
abbrev length_refused : Receiver → ℕ → Refusal
length_refused r t = pick (late t r.tick) (ground 9) (ground 1)

refused_so : (r : Receiver) (t : ℕ) (e : Event) → refusal_of r e ≡ length_refused r t → step_of r e ≡ refused_with r (length_refused r t)
unfolding step_of ground
refused_so r t e p = by-test (late t r.tick) (λ q. rw (p, q)) (λ q. rw (p, q))

nch-read : (s : List ℕ) → (length s ≡ 20 → ⊥) → (read_of s).refusal ≡ ground 1
nch-read s n = rw (ne_eqb (length s) 20 n)

facch-read : (s : List ℕ) → 23 < length s → (readFacch s).refusal ≡ ground 1
facch-read s h = rw (le-leb 2 (length s) (omega arith), lt-leb (length s) 23 h)

nch-refused : (r : Receiver) (t : ℕ) (s : List ℕ) → (length s ≡ 20 → ⊥) → step_of r (nch t s) ≡ refused_with r (length_refused r t)
unfolding refusal_of
nch-refused r t s n = refused_so r t (nch t s) (rw (nch-read s n))

facch-refused : (r : Receiver) (t : ℕ) (s : List ℕ) → 23 < length s → step_of r (facch t s) ≡ refused_with r (length_refused r t)
unfolding refusal_of
facch-refused r t s h = refused_so r t (facch t s) (rw (facch-read s h))

-- ## A field over that length, and its first octets

module _ (tag : ℕ) (c : List ℕ) (long : most < length c) where
  abbrev short : List ℕ
  short = take most c

  short-length : length short ≡ most
  short-length = length-take most c ∙ let z : min most (length c) ≡ most = omega arith in z

  same-tick : tick_in short ≡ tick_in c
  unfolding be_at
  same-tick = rw (get_or-take most c 0 0 (omega arith), get_or-take most c 1 0 (omega arith), get_or-take most c 2 0 (omega arith), get_or-take most c 3 0 (omega arith))

  module _ (r : Receiver) where
    -- the same is said, and the same receiver left
    abbrev Same : Type 0
    Same = (said_to r tag (event_by tag short) ≡ said_to r tag (event_by tag c)) × (receiver_after r (event_by tag short) ≡ receiver_after r (event_by tag c))

    said-none : event_by tag short ≡ none → event_by tag c ≡ none → Same
    said-none a b = (rw (a, b), rw (a, b))

    said_same : (d e : Event) → event_by tag short ≡ some d → event_by tag c ≡ some e → step_of r d ≡ step_of r e
        → Same
    said_same d e a b s = (rw (a, b) (ap (said_by tag) s), rw (a, b) (ap (λ (x : Answer). x.receiver) s))

    said-event : Same
    said-event =
        let w = short-length in
        let d : length (drop tick_length short) ≡ 205 = length-drop tick_length short ∙ (let z : length short - tick_length ≡ 205 = omega arith in z) in
        let b : 205 < length (drop tick_length c) = rw length-drop (omega arith) in
        let h : tick_length ≤ length short = omega arith in
        let g : tick_length ≤ length c = omega arith in
        by-test (eqb tag 1)
        (λ p.
        let e = eqb-true tag 1 p in
        said_same (nch (tick_in short) (drop tick_length short)) (nch (tick_in c) (drop tick_length c)) (event-1 tag short h e) (event-1 tag c g e)
        (nch-refused r (tick_in short) (drop tick_length short) (λ q. omega arith) ∙ rw same-tick (sym (nch-refused r (tick_in c) (drop tick_length c) (λ q. omega arith)))))
        (λ p.
        let n1 = eqb-false tag 1 p in
        by-test (eqb tag 2)
        (λ p.
        let e = eqb-true tag 2 p in
        said_same (facch (tick_in short) (drop tick_length short)) (facch (tick_in c) (drop tick_length c)) (event-2 tag short h e) (event-2 tag c g e)
        (facch-refused r (tick_in short) (drop tick_length short) (omega arith) ∙ rw same-tick (sym (facch-refused r (tick_in c) (drop tick_length c) (omega arith)))))
        (λ p.
        let n2 = eqb-false tag 2 p in
        said-none (event-none tag short n1 n2 (λ _ q. omega arith) (λ _ _ q. omega arith)) (event-none tag c n1 n2 (λ _ q. omega arith) (λ _ _ q. omega arith))))

  -- no setup is so long
  short-refused : accepts (record { tag = tag; contents = short }) ≡ false
  unfolding accepts
  short-refused = rw (short-length) (no_both (eqb tag 0))
    where
      no_both : (b : Bool) → both b false ≡ false
      no_both true = refl
      no_both false = refl

  too_many : key_count < keys_count c → eqb (start_in c).refusal.number 0 ≡ false
  unfolding start_in started_of setup_right keys_of ground
  too_many h =
      let n : length (sorted (tabulate (key_in c) 0 (keys_count c))) ≡ keys_count c =
      length-sorted (tabulate (key_in c) 0 (keys_count c)) ∙ length-table (key_in c) 0 (keys_count c) in
      rw (lt-leb (length (sorted (tabulate (key_in c) 0 (keys_count c)))) key_count (omega arith))

  long-refused : accepts (record { tag = tag; contents = c }) ≡ false
  unfolding accepts
  long-refused =
      by-test (eqb (length c % 4) 0)
      (λ p. let e = eqb-true (length c % 4) 0 p in rw (too_many (omega arith)) (no-three (eqb tag 0) (is_setup c)))
      (λ p. rw p (no-three' (eqb tag 0) (leb 8 (length c)) (eqb (start_in c).refusal.number 0)))
    where
      no-three : (a b : Bool) → both a (both b false) ≡ false
      no-three true true = refl
      no-three true false = refl
      no-three false b = refl

      no-three' : (a b x : Bool) → both a (both (both b false) x) ≡ false
      no-three' true true x = refl
      no-three' true false x = refl
      no-three' false b x = refl

  long_same : (st : Stage) → (said_of (whole (record { tag = tag; contents = short })) st ≡ said_of (whole (record { tag = tag; contents = c })) st)
      × (stage_after (whole (record { tag = tag; contents = short })) st ≡ stage_after (whole (record { tag = tag; contents = c })) st)
  long_same before = (rw (short-refused, long-refused), rw (short-refused, long-refused))
  long_same (running r) =
      by-test (eqb tag 0) (λ p. (rw p, rw p)) (λ p. (rw p (said-event r).0, rw p (ap running (said-event r).1)))
  long_same over = (refl, refl)

  -- nor is one accepted at any stage
  not_heard : (r : Receiver) → (said_to r tag (event_by tag c)).refusal ≡ 0 → ⊥
  unfolding ground
  not_heard r =
      let g : tick_length ≤ length c = omega arith in
      let b : 205 < length (drop tick_length c) = rw length-drop (omega arith) in
      by-test (eqb tag 1)
      (λ p. rw (event-1 tag c g (eqb-true tag 1 p), nch-refused r (tick_in c) (drop tick_length c) (λ q. omega arith)) (not_so r (tick_in c)))
      (λ p.
      let n1 = eqb-false tag 1 p in
      by-test (eqb tag 2)
      (λ p. rw (event-2 tag c g (eqb-true tag 2 p), facch-refused r (tick_in c) (drop tick_length c) (omega arith)) (not_so r (tick_in c)))
      (λ p.
      let n2 = eqb-false tag 2 p in
      rw (event-none tag c n1 n2 (λ _ q. omega arith) (λ _ _ q. omega arith)) (λ e. omega arith)))
    where
      not_so : (r : Receiver) (t : ℕ) → (length_refused r t).number ≡ 0 → ⊥
      not_so r t = by-test (late t r.tick) (λ p. rw p (λ e. omega arith)) (λ p. rw p (λ e. omega arith))

  not_accepted : (st : Stage) → (said_of (whole (record { tag = tag; contents = c })) st).refusal ≡ 0 → ⊥
  not_accepted before = rw long-refused (λ e. omega arith)
  not_accepted (running r) = by-test (eqb tag 0) (λ p. rw p (λ e. omega arith)) (λ p. rw p (not_heard r))
  not_accepted over = λ e. omega arith

-- ## Any field

-- a field that is accepted is kept whole
pub accepted-short : (tag : ℕ) (c : List ℕ) (st : Stage) → (said_of (whole (record { tag = tag; contents = c })) st).refusal ≡ 0 → length c ≤ most
accepted-short tag c st e =
    by-test (leb (length c) most) (λ p. leb-true (length c) most p) (λ p. absurd (not_accepted tag c (leb-false (length c) most p) st e))

pub same-short : (tag : ℕ) (c : List ℕ) (st : Stage) → (said_of (whole (record { tag = tag; contents = take most c })) st ≡ said_of (whole (record { tag = tag; contents = c })) st)
    × (stage_after (whole (record { tag = tag; contents = take most c })) st ≡ stage_after (whole (record { tag = tag; contents = c })) st)
same-short tag c st =
    by-test (leb (length c) most) (λ p. let e = take_all most c (leb-true (length c) most p) in (rw e, rw e)) (λ p. long_same tag c (leb-false (length c) most p) st)

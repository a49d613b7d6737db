-- Octets taken one by one without end of room: the text that they bring, and that calls bring the same. Assumes nothing.
use Rattle.std.proofs.Common.{◌≡◌, ℕ, suc, ◌+◌, ◌-◌, ◌≤◌, true, false, eqb, leb, List, [], ◌∷◌, ◌++◌, length, take, drop, sym, refl, ap, ◌∙◌, append_assoc, arith, length-append, length-take}
use Rattle.std.proofs.Common.{length-take-le, take_at, drop_at, le-leb, leb-false, leb-true}
use mathlib.Core.Option.{Option, none, some}
use borrow.Author.Tests.{lt-leb}
use Rattle.csn1.proofs.Lists.{length-padded}
use Rattle.receiver.specs.declared.Receiver.{Receiver}
use Rattle.receiver.specs.Channels.{number_of}
use Rattle.receiver.specs.Model.{keys_of, swept_slots}
use Rattle.receiver.specs.Step.{Event, Content, content_of, cell_after, rule_by, no_told, most_entries, all_told, refusal_of, step_of}
use Rattle.receiver.proofs.Cases.{by-test}
use Rattle.text.specs.Lines.{Line, added}
use Rattle.text.proofs.Lines.{line}
use Rattle.capture.specs.Capture.{Part, whole, torn}
use Rattle.capture.specs.Replay.{Stage, before, running, over, said_to, said_of, event_in, line_text}
use Rattle.capture.specs.Machine.{Machine, ends, field_ended, took_one, text_one, most_text, has_room, with_text, Taken, fed_by}
use Rattle.capture.specs.Calls.{Call, written, held_behind, taken_by, written_by}
use Rattle.capture.proofs.Texts.{nothing-added, placed, then-added, length-field, length-entries, length-told}
use Rattle.capture.proofs.Stepping.{no_room}

-- ## The text of a field is no longer than its room

step-entries : (r : Receiver) (e : Event) → length (step_of r e).entries ≡ most_entries
unfolding step_of
step-entries r e =
    let x : Content = content_of e.happening in
    by-test (eqb (refusal_of r e).number 0)
    (λ p.
    rw p
    (length-padded no_told most_entries
    (all_told (keys_of r) r.sets (cell_after r.cell x.cause x.news) (number_of x.channel) e.tick (swept_slots r e.tick (rule_by r x.cause)) x.entries)))
    (λ p. rw p (length-padded no_told most_entries []))

few-told : (r : Receiver) (tag : ℕ) (x : Option Event) → length (said_to r tag x).entries ≤ 9
few-told r tag none = omega arith
few-told r tag (some e) =
    omega
    (arith, length-told (take (step_of r e).count (step_of r e).entries), length-take (step_of r e).count (step_of r e).entries, step-entries r e)

few-entries : (p : Part) (st : Stage) → length (said_of p st).entries ≤ 9
few-entries (torn t) st = omega arith
few-entries (whole f) before = omega arith
few-entries (whole f) (running r) = by-test (eqb f.tag 0) (λ p. rw p (omega arith)) (λ p. rw p (few-told r f.tag (event_in f)))
few-entries (whole f) over = omega arith

pub text-most : (n : ℕ) (p : Part) (st : Stage) → length (line_text n (said_of p st)) ≤ most_text
unfolding line_text
text-most n p st =
    let s = said_of p st in
    rw length-append (omega (arith, length-field n s.tag s.refusal s.dropped, length-entries s.entries, few-entries p st))

one-most : (m : Machine) (o : ℕ) → length (text_one m o) ≤ most_text
unfolding text_one
one-most m o = by-test (ends m o) (λ p. rw p (text-most m.number (whole (field_ended m o)) m.stage)) (λ p. rw p (omega arith))

-- ## All octets

unfoldable pub text_all : Machine → List ℕ → List ℕ
text_all m [] = []
text_all m (o ∷ s) = text_one m o ++ text_all (took_one m o) s

unfoldable pub after_all : Machine → List ℕ → Machine
after_all m [] = m
after_all m (o ∷ s) = after_all (took_one m o) s

text-then : (m : Machine) (a b : List ℕ) → text_all m (a ++ b) ≡ text_all m a ++ text_all (after_all m a) b
unfolding text_all after_all
text-then m [] b = refl
text-then m (o ∷ a) b = ap (λ (t : List ℕ). text_one m o ++ t) (text-then (took_one m o) a b) ∙ sym (append_assoc (text_one m o) (text_all (took_one m o) a) (text_all (after_all (took_one m o) a) b))

after_then : (m : Machine) (a b : List ℕ) → after_all m (a ++ b) ≡ after_all (after_all m a) b
unfolding after_all
after_then m [] b = refl
after_then m (o ∷ a) b = after_then (took_one m o) a b

-- ## One call

-- what a call leaves, by the octets that it took
record FedAs (m : Machine) (s : List ℕ) (l : Line) (t : Taken) : Type 0 where
  machine : t.machine ≡ after_all m (take t.taken s)
  text : t.line ≡ added (text_all m (take t.taken s)) l
  fits : l.at + length (text_all m (take t.taken s)) ≤ length l.octets

none-fed : (m : Machine) (s : List ℕ) (l : Line) → l.at ≤ length l.octets → FedAs m s l (record { machine = m; taken = 0; line = l })
unfolding text_all after_all
none-fed m s l h = record { machine = refl; text = nothing-added l.octets l.at h; fits = omega arith }

with_text_lem : (m : Machine) (o : ℕ) (l : Line) → l.at ≤ length l.octets → with_text m o l ≡ added (text_one m o) l
unfolding text_one
with_text_lem m o l h = by-test (ends m o) (λ p. rw p) (λ p. rw p (nothing-added l.octets l.at h))

fed-room : (m : Machine) (o : ℕ) (s : List ℕ) (l : Line) → l.at ≤ length l.octets → has_room l ≡ true → (t : Taken) → FedAs (took_one m o) s (with_text m o l) t
    → FedAs m (o ∷ s) l (record { machine = t.machine; taken = 1 + t.taken; line = t.line })
unfolding text_all after_all
fed-room m o s l h r t f =
    let z : 1 + t.taken ≡ suc t.taken = omega arith in
    let w = with_text_lem m o l h in
    let u : l.at + length (text_one m o) ≤ length l.octets = omega (arith, one-most m o, leb-true (l.at + most_text) (length l.octets) r) in
    let p = placed (text_one m o) l.octets (with_text m o l).octets l.at (with_text m o l).at u w in
    let x : List ℕ = text_all (took_one m o) (take t.taken s) in
    let v : l.at + length (text_one m o) + length x ≤ length l.octets = omega (arith, f.fits) in
    rw z
    (record {
      machine = f.machine;
      text = then-added (text_one m o) x l.octets l.at (with_text m o l) t.line v w f.text;
      fits = rw (length-append (text_one m o) x) (omega arith);
    })

room_with : (m : Machine) (o : ℕ) (l : Line) → l.at ≤ length l.octets → has_room l ≡ true → (with_text m o l).at ≤ length (with_text m o l).octets
room_with m o l h r =
    let u : l.at + length (text_one m o) ≤ length l.octets = omega (arith, one-most m o, leb-true (l.at + most_text) (length l.octets) r) in
    let p = placed (text_one m o) l.octets (with_text m o l).octets l.at (with_text m o l).at u (with_text_lem m o l h) in
    omega arith

fed_as : (m : Machine) (s : List ℕ) (l : Line) → l.at ≤ length l.octets → FedAs m s l (fed_by m s l)
unfolding fed_by
fed_as m [] l h = none-fed m [] l h
fed_as m (o ∷ s) l h =
    by-test (has_room l) (λ p. rw p (fed-room m o s l h p (fed_by (took_one m o) s (with_text m o l)) (fed_as (took_one m o) s (with_text m o l) (room_with m o l h p))))
    (λ p. rw p (none-fed m (o ∷ s) l h))

pub written_is : (t o : List ℕ) (at : ℕ) → at + length t ≤ length o → written (line o at) (added t (line o at)) ≡ t
unfolding added
written_is t o at h =
    let e : (take at o ++ t) ++ drop (at + length t) o ≡ take at o ++ (t ++ drop (at + length t) o) = append_assoc (take at o) t (drop (at + length t) o) in
    let d : drop at (take at o ++ (t ++ drop (at + length t) o)) ≡ t ++ drop (at + length t) o =
    drop_at (take at o) (t ++ drop (at + length t) o) at (length-take-le at o (omega arith)) in
    let n : at + length t - at ≡ length t = omega arith in
    rw (le-leb (at + length t) (length o) h, e, d, n) (take_at t (drop (at + length t) o) (length t) refl)

module _ (m : Machine) (c : Call) where
  abbrev here : Taken
  here = fed_by m c.piece c.line

  -- the text is that of the octets that were taken, and so is what is held
  abbrev Both : Type 0
  Both = (written c.line here.line ≡ text_all m (take here.taken c.piece)) × (here.machine ≡ after_all m (take here.taken c.piece))

  call-both : Both
  unfolding text_all after_all
  call-both = by-test (leb c.line.at (length c.line.octets)) inside outside
    where
      inside : leb c.line.at (length c.line.octets) ≡ true → Both
      inside p =
          let f = fed_as m c.piece c.line (leb-true _ _ p) in
          (rw f.text (written_is (text_all m (take here.taken c.piece)) c.line.octets c.line.at f.fits), f.machine)

      outside : leb c.line.at (length c.line.octets) ≡ false → Both
      outside p =
          let q = leb-false c.line.at (length c.line.octets) p in
          let e = no_room m c.piece c.line (lt-leb (c.line.at + most_text) (length c.line.octets) (omega arith)) in
          let z : c.line.at - c.line.at ≡ 0 = omega arith in
          (rw (e, z), rw e)

-- ## Calls in a row

pub calls-text : (m : Machine) (cs : List Call) → written_by m cs ≡ text_all m (taken_by m cs)
unfolding written_by taken_by text_all
calls-text m [] = refl
calls-text m (c ∷ cs) =
    let b = call-both m c in
    rw (b.0, calls-text (here m c).machine cs)
    (ap (λ (x : Machine). text_all m (take (here m c).taken c.piece) ++ text_all x (taken_by (here m c).machine cs)) b.1
    ∙ sym (text-then m (take (here m c).taken c.piece) (taken_by (here m c).machine cs)))

pub calls-after : (m : Machine) (cs : List Call) → held_behind m cs ≡ after_all m (taken_by m cs)
unfolding held_behind taken_by after_all
calls-after m [] = refl
calls-after m (c ∷ cs) =
    calls-after (here m c).machine cs
    ∙ ap (λ (x : Machine). after_all x (taken_by (here m c).machine cs)) (call-both m c).1
    ∙ sym (after_then m (take (here m c).taken c.piece) (taken_by (here m c).machine cs))

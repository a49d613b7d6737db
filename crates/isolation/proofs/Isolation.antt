-- The receiver of all calls, seen by one call on one channel, is the one-call receiver. Assumes nothing.
use mathlib.Core.Path.{◌≡◌, refl, sym, ap, ap₂, ◌∙◌}
use mathlib.Core.Bool.{Bool, true, false, not}
use mathlib.Core.List.{List, [], ◌∷◌, ◌++◌, flatten}
use mathlib.Core.Option.{Option, none, some}
use Prim.Native.Nat.{ℕ, ◌^◌, ◌≤◌, ◌<◌}
use native.Mathlib.Nat.{zero-add}
use native.Mathlib.Omega.{arith}
use lib.Dec.{leb, ltb, eqb}
use lib.ListN.{length, get_or}
use borrow.Author.Tests.{leb-false, ltb-true, lt-ltb, le-ltb, leb-true, eqb-true, eqb-false, eq-eqb, ne_eqb}
use Rattle.bits.specs.Field.{both, pick}
use Rattle.csn1.specs.Format.{ground}
use Rattle.bits.proofs.Answers.{both_true}
use Rattle.receiver.specs.declared.Slot.{Slot}
use Rattle.receiver.specs.declared.Receiver.{Receiver}
use Rattle.receiver.specs.declared.Cell.{Cell}
use Rattle.receiver.specs.declared.Answer.{Answer}
use Rattle.receiver.specs.declared.Rule.{Rule}
use Rattle.receiver.specs.Channels.{key_count, places, Channel, number_of, has_pages}
use Rattle.receiver.specs.Model.{empty_slot, no_nln, longest_timer, wrap_sub, late_step, late, keys_of, index_of, spares, timer_at, kept_of, swept_slots}
use Rattle.receiver.specs.Step.{Event, Cause, nothing, joining, paged, moving, numbered, Content, content_of, changes, cell_after, taking, sparing, set_at}
use Rattle.receiver.specs.Step.{rule_by, rule_of, grounds_of, refusal_of, refused_with, accepted_as, step_of}
use Rattle.isolation.specs.One.{shows_nln, hears, gone_by, Half, Known, One, Said, Sight, sight_of, step_between, accepts, sees, seen, aged, known_after}
use Rattle.isolation.specs.One.{held_after_of, said_of, spared_by, spared, passed, known_then, step_one, step_said, run_one, run_each, one_after}
use Rattle.isolation.specs.Calls.{channel_in, clock_after}
use Rattle.isolation.specs.Promises.{under, answers_on, answers, answers_each, Ticks, after, held_of, slot_in, count_kept, bit_known}
use Rattle.isolation.proofs.Tables.{same, shows_same, drops_same, shown, showing, heard-same, sight-same}
use Rattle.isolation.proofs.Cells.{known, known_same}
use Rattle.isolation.proofs.LowCounts.{low-news}
use Rattle.isolation.proofs.Places.{place_lt, timer_in, timer-at, spares-at}
use Rattle.receiver.proofs.Keys.{same_index}
use Rattle.isolation.proofs.Meets.{Sound}
use Rattle.isolation.proofs.Dropping.{kept-held, kept-sound}
use Rattle.receiver.proofs.Cases.{by-test}
use Rattle.isolation.proofs.Standing.{place_at, length-all, other-channel, entries}
use Rattle.receiver.proofs.Loops.{get_d_map_at, length-map_at}
use Rattle.receiver.proofs.Accepted.{low, few, told_back}

-- ## What a call sees of the receiver

abbrev pub view : ℕ → Channel → Receiver → One
view key c r = record { held = held_of r.tick (slot_in key c r); cell = known c r.cell }

-- its set of group keys
abbrev pub set_in : ℕ → Receiver → ℕ
set_in key r = set_at r.sets (index_of (keys_of r) key)

-- what setup and events keep
pub record Good (key : ℕ) (c : Channel) (r : Receiver) : Type 0 where
  pub places : length r.slots ≡ places
  pub subscribed : index_of (keys_of r) key < key_count
  pub ticking : r.tick < 2 ^ 32
  pub long : 1 ≤ timer_in c r
  pub short : timer_in c r ≤ longest_timer
  pub sound : Sound r.tick (timer_in c r) (slot_in key c r)

-- ## What an event drops

pub swept-slot : (key : ℕ) (c : Channel) (r : Receiver) → Good key c r → (now : ℕ) (rule : Rule)
    → get_or (swept_slots r now rule) (place_at (keys_of r) key c) empty_slot ≡ kept_of now (timer_in c r) rule (place_at (keys_of r) key c) (slot_in key c r)
unfolding swept_slots
swept-slot key c r g now rule =
    get_d_map_at (λ i s. kept_of now (timer_at r i) rule i s) 0 r.slots (place_at (keys_of r) key c) empty_slot empty_slot
    (rw g.places (place_lt (index_of (keys_of r) key) c g.subscribed))
    ∙ rw (zero-add, timer-at r (index_of (keys_of r) key) c)

join-same : (keys : List ℕ) (key k : ℕ) → index_of keys key < key_count → eqb (index_of keys key) (index_of keys k) ≡ eqb k key
join-same keys key k h =
    by-test (eqb k key)
    (λ p. rw p (eq-eqb (index_of keys key) (index_of keys k) (ap (index_of keys) (sym (eqb-true k key p)))))
    (λ p. rw p (ne_eqb (index_of keys key) (index_of keys k) (λ q. eqb-false k key p (sym (same_index keys key k h q)))))

-- where no key is spared, all halves of the channels go; b: those of this one
all-gone : (b : Bool) (n : ℕ) (h : Option Half) → n < key_count → pick b none h ≡ pick (pick b (eqb n key_count) true) h none
all-gone true n h l = rw (ne_eqb n key_count (λ q. omega arith))
all-gone false n h l = refl

-- w: the channel shows an NLN, z: none was seen
renumbered : (key : ℕ) (c : Channel) (w z : Bool) (l n : ℕ) (count bit : Option ℕ) (h : Option Half)
    → spared_by key c (record { nln = pick w (pick z none (some l)) none; count = count; bit = bit }) (pick w (numbered n) nothing) h ≡ pick (both w (both (not z) (not (eqb l n)))) none h
renumbered key c true true l n count bit h = refl
renumbered key c true false l n count bit h = refl
renumbered key c false z l n count bit h = refl

-- b: the channel shows a key of the PCH
paged_away : (key : ℕ) (c : Channel) (l : Known) (b : Bool) (k : ℕ) (h : Option Half)
    → spared_by key c l (pick b (paged k) nothing) h ≡ pick (pick b (eqb k key) true) h none
paged_away key c l true k h = refl
paged_away key c l false k h = refl

spared-same : (key : ℕ) (r : Receiver) → index_of (keys_of r) key < key_count → (c : Channel) (x : Cause) (h : Option Half)
    → spared_by key c (known c r.cell) (shown c x) h ≡ pick (spares (rule_by r x) (place_at (keys_of r) key c)) h none
spared-same key r subscribed c x h = by-cause x ∙ ap (λ (b : Bool). pick b h none) (sym (spares-at (index_of (keys_of r) key) c (taking r.cell x) (sparing (keys_of r) x)))
  where
    by-cause : (x : Cause) → spared_by key c (known c r.cell) (shown c x) h ≡ pick (pick (taking r.cell x c) (eqb (index_of (keys_of r) key) (sparing (keys_of r) x)) true) h none
    by-cause nothing = refl
    by-cause (joining k) = rw (join-same (keys_of r) key k subscribed)
    by-cause (paged k) = rw (join-same (keys_of r) key k subscribed) (paged_away key c (known c r.cell) (has_pages c) k h)
    by-cause (moving m) = rw (drops_same c m) (all-gone (gone_by c m) (index_of (keys_of r) key) h subscribed)
    by-cause (numbered n) =
        rw (shows_same c)
        (renumbered key c (shows_nln c) (eqb r.cell.nln no_nln) r.cell.nln n (count_kept r.cell) (bit_known r.cell) h
        ∙ all-gone (both (shows_nln c) (changes r.cell n)) (index_of (keys_of r) key) h subscribed)

-- ## The entries of an event

abbrev pub content_in : Event → Content
content_in e = content_of e.happening

abbrev seen_in : ℕ → Channel → Event → Sight
seen_in key c e = sight_of key c e.happening

same_seen : (key : ℕ) (c : Channel) (e : Event) → seen_in key c e ≡ showing key c (content_in e)
same_seen key c e = sight-same key c e.happening

abbrev pub accepted_of : Receiver → Event → Answer
accepted_of r e = accepted_as r e.tick (content_in e)

-- what is known of the cell when the entries come
abbrev pub cell_then : Receiver → Event → Cell
cell_then r e = cell_after r.cell (content_in e).cause (content_in e).news

abbrev pub swept_by : Receiver → Event → List Slot
swept_by r e = swept_slots r e.tick (rule_of r e)

abbrev pub left_in : ℕ → Channel → Receiver → Event → Slot
left_in key c r e = get_or (swept_by r e) (place_at (keys_of r) key c) empty_slot

-- what they do at the place of a call, beside what they do at its own receiver
record Acts (key : ℕ) (c : Channel) (r : Receiver) (e : Event) : Type 0 where
  held : held_of e.tick (slot_in key c (accepted_of r e).receiver) ≡ held_after_of c (held_of e.tick (left_in key c r e)) (seen_in key c e).entries
  said : answers_on key c e (accepted_of r e) ≡ said_of c (set_in key r) (known c (cell_then r e)) (held_of e.tick (left_in key c r e)) (seen_in key c e).entries
  sound : Sound e.tick (timer_in c r) (slot_in key c (accepted_of r e).receiver)

pub length-swept : (r : Receiver) (now : ℕ) (rule : Rule) → length r.slots ≡ places → length (swept_slots r now rule) ≡ places
unfolding swept_slots
length-swept r now rule h = length-map_at (λ i s. kept_of now (timer_at r i) rule i s) 0 r.slots ∙ h

module _ (key : ℕ) (c : Channel) (r : Receiver) (g : Good key c r) (e : Event) (k : e.tick < 2 ^ 32) (p : Sound e.tick (timer_in c r) (left_in key c r e)) where
  -- entries on another channel
  acts-other : same c (content_in e).channel ≡ false → Acts key c r e
  unfolding answers_on held_after_of said_of
  acts-other n =
      let o = other-channel (keys_of r) e.tick key c (content_in e).channel (eqb-false (number_of c) (number_of (content_in e).channel) n) (swept_by r e) (content_in e).entries in
      record { held = rw (same_seen key c e, n, o); said = rw (heard-same c e.happening, same_seen key c e, n); sound = rw o p }

  -- entries on its own channel
  acts-own : (grounds_of e.happening).number ≡ 0 → same c (content_in e).channel ≡ true → Acts key c r e
  unfolding answers_on
  acts-own z n =
      let a : number_of (content_in e).channel ≡ number_of c = sym (eqb-true (number_of c) (number_of (content_in e).channel) n) in
      let x =
      entries (keys_of r) e.tick key c g.subscribed r.sets (cell_then r e) (timer_in c r) k g.long (swept_by r e) (content_in e).entries
      (length-swept r e.tick (rule_of r e) g.places) p in
      record {
        held = rw (same_seen key c e, n, a) x.held;
        said =
            rw (heard-same c e.happening, same_seen key c e, n)
            (ap (under key) (told_back (keys_of r) r.sets (cell_then r e) (number_of (content_in e).channel) e.tick (swept_by r e) (content_in e).entries (few e.happening z))
            ∙ rw a x.said);
        sound = rw a x.sound;
      }

  acts : (grounds_of e.happening).number ≡ 0 → Acts key c r e
  acts z = by-test (same c (content_in e).channel) (acts-own z) acts-other

-- ## One event

-- accepted by the one-call receiver's own words: the step is short and nothing else refuses it
pub record Accepted (r : Receiver) (e : Event) : Type 0 where
  pub short : wrap_sub e.tick r.tick < late_step
  pub allowed : (grounds_of e.happening).number ≡ 0

pub accepted : (r : Receiver) (e : Event) → accepts r.tick e ≡ true → Accepted r e
unfolding accepts
accepted r e p =
    let b = both_true (ltb (wrap_sub e.tick r.tick) (2 ^ 31)) (eqb (grounds_of e.happening).number 0) p in
    record { short = ltb-true (wrap_sub e.tick r.tick) (2 ^ 31) b.0; allowed = eqb-true (grounds_of e.happening).number 0 b.1 }

-- both receivers refuse the same events
pub accepts-same : (r : Receiver) (e : Event) → accepts r.tick e ≡ eqb (refusal_of r e).number 0
unfolding accepts refusal_of late ground
accepts-same r e =
    by-test (leb late_step (wrap_sub e.tick r.tick))
    (λ p. rw (p, le-ltb (wrap_sub e.tick r.tick) late_step (leb-true late_step (wrap_sub e.tick r.tick) p)))
    (λ p. rw (p, lt-ltb (wrap_sub e.tick r.tick) late_step (leb-false late_step (wrap_sub e.tick r.tick) p)))

pub stepped : (r : Receiver) (e : Event) → accepts r.tick e ≡ true → step_of r e ≡ accepted_of r e
unfolding step_of
stepped r e p = rw (sym (accepts-same r e) ∙ p)

pub not_stepped : (r : Receiver) (e : Event) → accepts r.tick e ≡ false → step_of r e ≡ refused_with r (refusal_of r e)
unfolding step_of
not_stepped r e p = rw (sym (accepts-same r e) ∙ p)

not_answered : (key : ℕ) (c : Channel) (r : Receiver) (e : Event) → answers_on key c e (refused_with r (refusal_of r e)) ≡ []
unfolding answers_on under
not_answered key c r e = by-test (hears c (channel_in e)) (λ p. rw p) (λ p. rw p)

-- what is known of the cell, to a call that knew it before
cell_same : (key : ℕ) (c : Channel) (r : Receiver) (o : One) → known c r.cell ≡ o.cell → (e : Event) → (grounds_of e.happening).number ≡ 0
    → known c (cell_then r e) ≡ known_then o (seen_in key c e)
cell_same key c r o q e z =
    known_same c r.cell (content_in e).cause (content_in e).news (low e.happening z) (low-news e.happening z)
    ∙ ap₂ (λ (l : Known) (v : Sight). known_after l v.cause v.news) q (sym (same_seen key c e))

module _ (key : ℕ) (c : Channel) (r : Receiver) (g : Good key c r) (e : Event) (k : e.tick < 2 ^ 32) (a : Accepted r e) where
  pub left-sound : Sound e.tick (timer_in c r) (left_in key c r e)
  left-sound =
      rw (swept-slot key c r g e.tick (rule_of r e))
      (kept-sound r.tick e.tick (timer_in c r) (slot_in key c r) g.sound g.ticking k g.short a.short (rule_of r e) (place_at (keys_of r) key c))

  -- what is left before the entries
  pub left-same : held_of e.tick (left_in key c r e) ≡ spared key c (passed (timer_in c r) (view key c r) (step_between r.tick e.tick)) (seen_in key c e)
  left-same =
      ap (held_of e.tick) (swept-slot key c r g e.tick (rule_of r e))
      ∙ kept-held r.tick e.tick (timer_in c r) (slot_in key c r) g.sound g.ticking k g.short a.short (rule_of r e) (place_at (keys_of r) key c)
      ∙ sym (rw (same_seen key c e) (spared-same key r g.subscribed c (content_in e).cause (aged (timer_in c r) (wrap_sub e.tick r.tick) (held_of r.tick (slot_in key c r)))))

  acted : Acts key c r e
  acted = acts key c r g e k left-sound a.allowed

  -- what is known of the cell then
  pub then_same : known c (cell_then r e) ≡ known_then (view key c r) (seen_in key c e)
  then_same = cell_same key c r (view key c r) refl e a.allowed

  step-view : view key c (accepted_of r e).receiver ≡ step_one key c (timer_in c r) (view key c r) (sees key c r.tick e)
  unfolding step_one
  step-view =
      λ i.
      record {
        held = (acted.held ∙ ap (λ (h : Option Half). held_after_of c h (seen_in key c e).entries) left-same) i;
        cell = then_same i;
      }

  pub step-said : answers_on key c e (accepted_of r e) ≡ step_said key c (timer_in c r) (set_in key r) (view key c r) (sees key c r.tick e)
  unfolding step_said
  step-said = acted.said ∙ ap₂ (λ (l : Known) (h : Option Half). said_of c (set_in key r) l h (seen_in key c e).entries) then_same left-same

  pub step-good : Good key c (accepted_of r e).receiver
  step-good =
      record {
        places = length-all (keys_of r) e.tick (number_of (content_in e).channel) (swept_by r e) (content_in e).entries ∙ length-swept r e.tick (rule_of r e) g.places;
        subscribed = g.subscribed;
        ticking = k;
        long = g.long;
        short = g.short;
        sound = acted.sound;
      }

-- ## Any events

pub isolated : (key : ℕ) (c : Channel) (r : Receiver) → Good key c r → (es : List Event) → Ticks es
    → answers_each key c r es ≡ run_each key c (timer_in c r) (set_in key r) (view key c r) r.tick es
unfolding answers_each run_each
isolated key c r g [] t = refl
isolated key c r g (e ∷ es) t =
    by-test (accepts r.tick e)
    (λ p.
    let a = accepted r e p in
    let q = isolated key c (accepted_of r e).receiver (step-good key c r g e t.0 a) es t.1 in
    rw (stepped r e p, p)
    (ap₂ (λ (x : List Said) (y : List (List Said)). x ∷ y) (step-said key c r g e t.0 a)
    (q ∙ ap (λ (o : One). run_each key c (timer_in c r) (set_in key r) o e.tick es) (step-view key c r g e t.0 a))))
    (λ p. rw (not_stepped r e p, p, not_answered key c r e) (ap (λ (y : List (List Said)). [] ∷ y) (isolated key c r g es t.1)))

-- all in one list
pub answers_flat : (key : ℕ) (c : Channel) (r : Receiver) (es : List Event) → flatten (answers_each key c r es) ≡ answers key c r es
unfolding answers_each answers flatten
answers_flat key c r [] = refl
answers_flat key c r (e ∷ es) = ap (λ (l : List Said). answers_on key c e (step_of r e) ++ l) (answers_flat key c (step_of r e).receiver es)

pub says_flat : (key : ℕ) (c : Channel) (timer set : ℕ) (o : One) (last : ℕ) (es : List Event)
    → flatten (run_each key c timer set o last es) ≡ run_one key c timer set o (seen key c last es)
unfolding run_each seen run_one flatten
says_flat key c timer set o last [] = refl
says_flat key c timer set o last (e ∷ es) =
    by-test (accepts last e)
    (λ p. rw p (ap (λ (l : List Said). step_said key c timer set o (sees key c last e) ++ l) (says_flat key c timer set (step_one key c timer o (sees key c last e)) e.tick es)))
    (λ p. rw p (says_flat key c timer set o last es))

pub viewed : (key : ℕ) (c : Channel) (r : Receiver) → Good key c r → (es : List Event) → Ticks es
    → view key c (after r es) ≡ one_after key c (timer_in c r) (view key c r) (seen key c r.tick es)
unfolding after one_after seen
viewed key c r g [] t = refl
viewed key c r g (e ∷ es) t =
    by-test (accepts r.tick e)
    (λ p.
    let a = accepted r e p in
    let q = viewed key c (accepted_of r e).receiver (step-good key c r g e t.0 a) es t.1 in
    ap (λ (b : Answer). view key c (after b.receiver es)) (stepped r e p)
    ∙ rw p (q ∙ ap (λ (o : One). one_after key c (timer_in c r) o (seen key c e.tick es)) (step-view key c r g e t.0 a)))
    (λ p. ap (λ (b : Answer). view key c (after b.receiver es)) (not_stepped r e p) ∙ rw p (viewed key c r g es t.1))

-- what is known of the cell, to any call, subscribed or not
pub cell-viewed : (key : ℕ) (c : Channel) (timer : ℕ) (r : Receiver) (o : One) → known c r.cell ≡ o.cell → (es : List Event)
    → known c (after r es).cell ≡ (one_after key c timer o (seen key c r.tick es)).cell
unfolding after one_after seen step_one
cell-viewed key c timer r o q [] = q
cell-viewed key c timer r o q (e ∷ es) =
    by-test (accepts r.tick e)
    (λ p.
    ap (λ (b : Answer). known c (after b.receiver es).cell) (stepped r e p)
    ∙ rw p (cell-viewed key c timer (accepted_of r e).receiver (step_one key c timer o (sees key c r.tick e)) (cell_same key c r o q e (accepted r e p).allowed) es))
    (λ p. ap (λ (b : Answer). known c (after b.receiver es).cell) (not_stepped r e p) ∙ rw p (cell-viewed key c timer r o q es))

-- what accepted events keep
pub after-keeps : (P : Receiver → Type 0) → ((r : Receiver) (e : Event) → e.tick < 2 ^ 32 → Accepted r e → P r → P (accepted_of r e).receiver)
    → (r : Receiver) → P r → (es : List Event) → Ticks es → P (after r es)
unfolding after
after-keeps P f r p [] t = p
after-keeps P f r p (e ∷ es) t =
    by-test (accepts r.tick e)
    (λ q. rw (stepped r e q) (after-keeps P f (accepted_of r e).receiver (f r e t.0 (accepted r e q) p) es t.1))
    (λ q. rw (not_stepped r e q) (after-keeps P f r p es t.1))

pub tick-after : (r : Receiver) (es : List Event) → (after r es).tick ≡ clock_after r.tick es
unfolding after clock_after
tick-after r [] = refl
tick-after r (e ∷ es) =
    by-test (accepts r.tick e)
    (λ q. ap (λ (b : Answer). (after b.receiver es).tick) (stepped r e q) ∙ rw q (tick-after (accepted_of r e).receiver es))
    (λ q. ap (λ (b : Answer). (after b.receiver es).tick) (not_stepped r e q) ∙ rw q (tick-after r es))

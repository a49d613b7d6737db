-- The whole answer to an event, from what the receivers of the calls hold. Assumes nothing.
use mathlib.Core.Path.{◌≡◌, refl, sym, ap, ap₂, ◌∙◌}
use mathlib.Core.Bool.{Bool, true, false}
use mathlib.Core.List.{List, [], ◌∷◌, ◌++◌, append_assoc}
use mathlib.Core.Option.{Option}
use Prim.Native.Nat.{ℕ, ◌+◌, ◌*◌, ◌^◌, ◌≤◌, ◌<◌}
use native.Mathlib.Nat.{zero-add}
use native.Mathlib.Omega.{arith}
use lib.Dec.{leb, ltb}
use lib.ListN.{length, take, get_or, length-append, length-replicate, get_or-replicate}
use lib.Seq.{take-append_seam}
use borrow.Author.Tests.{leb-true, leb-false, ltb-true, ltb-false, lt-ltb, le-ltb}
use Rattle.bits.specs.Field.{pick}
use Rattle.csn1.specs.Format.{no_refusal, ground}
use Rattle.csn1.specs.Told.{as_bit}
use Rattle.receiver.specs.declared.Record.{Record}
use Rattle.receiver.specs.declared.Slot.{Slot}
use Rattle.receiver.specs.declared.Told.{Told}
use Rattle.receiver.specs.declared.Receiver.{Receiver}
use Rattle.receiver.specs.declared.Rule.{Rule}
use Rattle.receiver.specs.declared.Cell.{Cell}
use Rattle.receiver.specs.declared.Setup.{Setup}
use Rattle.receiver.specs.Channels.{channels, key_count, places, place_on, Channel, number_of}
use Rattle.receiver.specs.Halving.{first_of, rises}
use Rattle.receiver.specs.Model.{empty_slot, wrap_sub, late_step, late, key_of, keys_of, index_of, timer_at}
use Rattle.receiver.specs.Model.{ran_out_of, taken_of, kept_of, map_at, swept_slots, expired_of, dropped_of, started_of}
use Rattle.receiver.specs.Step.{Event, grounds_of, refusal_of, rule_of, ours, slots_after, told_of, all_after, all_told, step_of}
use Rattle.isolation.specs.One.{Half, Known, One, Listed, listed_in, accepts, aged, mine, meet_one, held_after_of, said_by}
use Rattle.isolation.specs.Calls.{last_tick, event_entries, channel_in, call_after, call_at, left_by, lost, total_over, subscribed, named}
use Rattle.isolation.specs.Calls.{not_ours_of, set_under, known_on, said_under, toldTo, laid_out, refused_by, acceptedBy, ground_by, reply_by}
use Rattle.isolation.specs.Promises.{Ticks, held_of, slot_in, reply_of}
use Rattle.isolation.proofs.Tables.{listed_same, paged-same}
use Rattle.isolation.proofs.Places.{number_lt, timer_in, timer-at}
use Rattle.receiver.proofs.Halving.{no_later}
use Rattle.receiver.proofs.Keys.{found, own-index, low-index}
use Rattle.isolation.proofs.Dropping.{kept_what, expired-half, dropped-half}
use Rattle.receiver.proofs.Cases.{by-test}
use Rattle.isolation.proofs.Standing.{place_at, length-all, missed, told-key, our-said, entries}
use Rattle.receiver.proofs.Loops.{get_d_map_at}
use Rattle.receiver.proofs.Entering.{after_snoc}
use Rattle.isolation.proofs.Isolation.{Good, swept-slot, content_in, accepted_of, cell_then, swept_by, length-swept, Accepted, accepted, stepped, not_stepped, left-sound, after-keeps}
use Rattle.isolation.proofs.Beginning.{made, started, started_keys}
use Rattle.isolation.proofs.Totals.{counted}
use Rattle.isolation.proofs.Calls.{state, clock_is, good, timer-is, set_is, call-is, known_is, left_is}

-- ## The places of no subscription stay free

pub record Spare (keys : List ℕ) (r : Receiver) : Type 0 where
  pub keyed : keys_of r ≡ keys
  pub whole : length r.slots ≡ places
  pub free : (i : ℕ) → channels * length keys ≤ i → i < places → (get_or r.slots i empty_slot).half ≡ 0

module _ (keys : List ℕ) where
  -- what is found stands among the keys
  unused : (key : ℕ) (c : Channel) (i : ℕ) → channels * length keys ≤ i → i < places → i ≡ place_at keys key c → ⊥
  unused key c i a b q =
      by-test (ltb (index_of keys key) key_count) (λ p. omega (arith, (found keys key (ltb-true (index_of keys key) key_count p)).0, number_lt c))
      (λ p. omega (arith, ltb-false (index_of keys key) key_count p))

  free-entries : (now : ℕ) (c : Channel) (i : ℕ) → channels * length keys ≤ i → i < places → (l : List Slot) (xs : List Record)
      → get_or (all_after keys (number_of c) now l xs) i empty_slot ≡ get_or l i empty_slot
  unfolding all_after
  free-entries now c i a b l [] = refl
  free-entries now c i a b l (x ∷ xs) =
      free-entries now c i a b (slots_after keys (number_of c) now l x) xs ∙ missed keys now (number_of c) i l x (unused (key_of x.call) c i a b)

  free-swept : (r : Receiver) (now : ℕ) (rule : Rule) (i : ℕ) → i < length r.slots → (get_or r.slots i empty_slot).half ≡ 0
      → (get_or (swept_slots r now rule) i empty_slot).half ≡ 0
  unfolding swept_slots
  free-swept r now rule i n h =
      ap (λ (s : Slot). s.half) (get_d_map_at (λ j s. kept_of now (timer_at r j) rule j s) 0 r.slots i empty_slot empty_slot n)
      ∙ rw (kept_what now (timer_at r (0 + i)) rule (0 + i) (get_or r.slots i empty_slot), h) h

  spare-step : (r : Receiver) (e : Event) → e.tick < 2 ^ 32 → Accepted r e → Spare keys r → Spare keys (accepted_of r e).receiver
  spare-step r e k a p =
      record {
        keyed = p.keyed;
        whole = length-all (keys_of r) e.tick (number_of (content_in e).channel) (swept_by r e) (content_in e).entries ∙ length-swept r e.tick (rule_of r e) p.whole;
        free =
            λ i x y.
            ap (λ (s : Slot). s.half)
            (ap (λ (ks : List ℕ). get_or (all_after ks (number_of (content_in e).channel) e.tick (swept_by r e) (content_in e).entries) i empty_slot) p.keyed
            ∙ free-entries e.tick (content_in e).channel i x y (swept_by r e) (content_in e).entries)
            ∙ free-swept r e.tick (rule_of r e) i (rw p.whole y) (p.free i x y);
      }

free-out : (now timer : ℕ) (s : Slot) → s.half ≡ 0 → ran_out_of now timer s ≡ false
unfolding ran_out_of
free-out now timer s h = rw h

free-taken : (now timer : ℕ) (rule : Rule) (i : ℕ) (s : Slot) → s.half ≡ 0 → taken_of now timer rule i s ≡ false
unfolding taken_of
free-taken now timer rule i s h = rw h

-- an entry under a key that is not subscribed
not_ours : (keys sets : List ℕ) (cell : Cell) (ch now : ℕ) (l : List Slot) (x : Record) → ours keys x ≡ false
    → told_of keys sets cell ch now l x ≡ named (key_of x.call) not_ours_of
unfolding told_of
not_ours keys sets cell ch now l x p = rw p

-- ## The answer

module _ (s : Setup) (keys sets : List ℕ) (t : s.tick < 4294967296) (z : (started_of s keys sets).refusal.number ≡ 0) (es : List Event) (ts : Ticks es) where
  abbrev r : Receiver
  r = state s keys sets t z es ts

  few : length keys ≤ key_count
  few = (made s keys sets z).few

  right : rises keys ≡ true
  right = (made s keys sets z).rising

  spare : Spare keys r
  spare =
      after-keeps (Spare keys) (spare-step keys) (started s keys sets)
      (record { keyed = started_keys s keys sets few; whole = length-replicate places empty_slot; free = λ i x y. ap (λ (u : Slot). u.half) (get_or-replicate places i empty_slot empty_slot y) })
      es ts

  module _ (e : Event) (k : e.tick < 2 ^ 32) (p : accepts r.tick e ≡ true) where
    abbrev now : ℕ
    now = e.tick

    a : Accepted r e
    a = accepted r e p

    -- ### Counts

    module _ (key : ℕ) (h : first_of keys key < length keys) (c : Channel) where
      g : Good key c r
      g = good s keys sets t z es ts key h c

      passed_is : aged (timer_in c r) (wrap_sub now r.tick) (held_of r.tick (slot_in key c r)) ≡ (call_at s es e key c).held
      passed_is =
          ap (λ (o : One). aged (timer_in c r) (wrap_sub now r.tick) o.held) (call-is s keys sets t z es ts key h c)
          ∙ ap₂ (λ (n m : ℕ). aged n (wrap_sub now m) (call_after s es key c).held) (timer-is s keys sets t z es ts key h c) (clock_is s keys sets t z es ts)

      expired-at : as_bit (ran_out_of now (timer_at r (place_at (keys_of r) key c)) (slot_in key c r)) ≡ lost (call_after s es key c).held (call_at s es e key c).held
      expired-at =
          rw (timer-at r (index_of (keys_of r) key) c)
          (expired-half r.tick now (timer_in c r) (slot_in key c r) g.sound g.ticking k g.short a.short)
          ∙ ap₂ lost (ap (λ (o : One). o.held) (call-is s keys sets t z es ts key h c)) passed_is

      dropped-at : as_bit (taken_of now (timer_at r (place_at (keys_of r) key c)) (rule_of r e) (place_at (keys_of r) key c) (slot_in key c r))
          ≡ lost (call_at s es e key c).held (left_by s es e key c)
      dropped-at =
          rw (timer-at r (index_of (keys_of r) key) c)
          (dropped-half r.tick now (timer_in c r) (slot_in key c r) g.sound g.ticking k g.short a.short (rule_of r e) (place_at (keys_of r) key c))
          ∙ ap₂ lost passed_is (ap (held_of now) (sym (swept-slot key c r g now (rule_of r e))) ∙ left_is s keys sets t z es ts key h c e k p)

    -- the j-th key on a channel
    module _ (j : ℕ) (w : j < length keys) where
      in-keys : first_of keys (get_or keys j 0) < length keys
      in-keys = omega (arith, no_later keys j 0 w)

      place_is : (q : ℕ) (c : Channel) → q ≡ place_on j (number_of c) → q ≡ place_at (keys_of r) (get_or keys j 0) c
      place_is q c u =
          u
          ∙ ap (λ (n : ℕ). place_on n (number_of c))
          (sym (ap (λ (ks : List ℕ). index_of ks (get_or keys j 0)) spare.keyed ∙ own-index keys right j w))

    enough : channels * length keys ≤ length r.slots
    enough = omega (arith, few, spare.whole)

    expiries : expired_of r now r.slots ≡ total_over (λ key c. lost (call_after s es key c).held (call_at s es e key c).held) keys
    unfolding expired_of
    expiries =
        counted (λ i u. ran_out_of now (timer_at r i) u) (λ key c. lost (call_after s es key c).held (call_at s es e key c).held) 0 keys r.slots enough
        (λ j i q c u v w.
        ap₂ (λ (m n : ℕ). as_bit (ran_out_of now (timer_at r m) (get_or r.slots n empty_slot))) (v ∙ zero-add i ∙ place_is j w i c u) (place_is j w i c u)
        ∙ expired-at (get_or keys j 0) (in-keys j w) c)
        (λ i q u v w. free-out now (timer_at r q) (get_or r.slots i empty_slot) (spare.free i v (omega (arith, w, spare.whole))))

    drops : dropped_of r now (rule_of r e) ≡ total_over (λ key c. lost (call_at s es e key c).held (left_by s es e key c)) keys
    unfolding dropped_of
    drops =
        counted (λ i u. taken_of now (timer_at r i) (rule_of r e) i u) (λ key c. lost (call_at s es e key c).held (left_by s es e key c)) 0 keys r.slots enough
        (λ j i q c u v w.
        ap₂ (λ (m n : ℕ). as_bit (taken_of now (timer_at r m) (rule_of r e) m (get_or r.slots n empty_slot))) (v ∙ zero-add i ∙ place_is j w i c u) (place_is j w i c u)
        ∙ dropped-at (get_or keys j 0) (in-keys j w) c)
        (λ i q u v w. free-taken now (timer_at r q) (rule_of r e) q (get_or r.slots i empty_slot) (spare.free i v (omega (arith, w, spare.whole))))

    -- ### Entries

    abbrev c : Channel
    c = channel_in e

    abbrev slots_then : List Record → List Slot
    slots_then earlier = all_after (keys_of r) (number_of c) now (swept_by r e) earlier

    told-ours : (earlier : List Record) (x : Record) → first_of keys (key_of x.call) < length keys
        → told_of (keys_of r) r.sets (cell_then r e) (number_of c) now (slots_then earlier) x
        ≡ named (key_of x.call) (said_under s es e (key_of x.call) (set_under keys sets (key_of x.call)) earlier x)
    told-ours earlier x h =
        let key : ℕ = key_of x.call in
        let y = g key h c in
        let m =
        entries (keys_of r) now key c y.subscribed r.sets (cell_then r e) (timer_in c r) k y.long (swept_by r e) earlier (length-swept r now (rule_of r e) y.places)
        (left-sound key c r y e k a) in
        ap₂ named (told-key (keys_of r) now key c y.subscribed r.sets (cell_then r e) (slots_then earlier) x)
        (our-said (keys_of r) now key c y.subscribed r.sets (cell_then r e) (slots_then earlier) x m.sound.half refl
        ∙ ap₂ (λ (n : ℕ) (l : Known). said_by n l (meet_one c (held_of now (get_or (slots_then earlier) (place_at (keys_of r) key c) empty_slot)) x)) (set_is s keys sets t z es ts key h c)
        (known_is s keys sets t z es ts key h c e k p)
        ∙ ap (λ (o : Option Half). said_by (set_under keys sets key) (known_on s es e key c) (meet_one c o x))
        (m.held ∙ ap (λ (o : Option Half). held_after_of c o (mine key earlier)) (left_is s keys sets t z es ts key h c e k p)))

    told-one : (earlier : List Record) (x : Record)
        → told_of (keys_of r) r.sets (cell_then r e) (number_of c) now (slots_then earlier) x ≡ toldTo s es e keys sets earlier x
    told-one earlier x =
        by-test (subscribed keys (key_of x.call))
        (λ q. rw q (told-ours earlier x (ltb-true (first_of keys (key_of x.call)) (length keys) q)))
        (λ q.
        rw q (not_ours (keys_of r) r.sets (cell_then r e) (number_of c) now (slots_then earlier) x
        (ap (λ (ks : List ℕ). ltb (index_of ks (key_of x.call)) key_count) spare.keyed ∙ low-index keys right (key_of x.call) few ∙ q)))

    told-all : (earlier xs all : List Record) → earlier ++ xs ≡ all
        → all_told (keys_of r) r.sets (cell_then r e) (number_of c) now (slots_then earlier) xs ≡ map_at (λ i x. toldTo s es e keys sets (take i all) x) (length earlier) xs
    unfolding all_told
    told-all earlier [] all q = refl
    told-all earlier (x ∷ xs) all q =
        ap₂ (λ (y : Told) (ys : List Told). y ∷ ys)
        (told-one earlier x
        ∙ ap (λ (l : List Record). toldTo s es e keys sets l x) (sym (ap (take (length earlier)) (sym q) ∙ take-append_seam earlier (x ∷ xs))))
        (ap (λ (l : List Slot). all_told (keys_of r) r.sets (cell_then r e) (number_of c) now l xs) (sym (after_snoc (keys_of r) r.sets (cell_then r e) (number_of c) now (swept_by r e) earlier x))
        ∙ told-all (earlier ++ (x ∷ [])) xs all (append_assoc earlier (x ∷ []) xs ∙ q)
        ∙ ap (λ (n : ℕ). map_at (λ i y. toldTo s es e keys sets (take i all) y) n xs) (omega (arith, length-append earlier (x ∷ []))))

    -- the receiver's table of what is in an event says the same as the calls' own
    same-list : ◌≡◌ {A = Listed} (record { channel = (content_in e).channel; entries = (content_in e).entries }) (listed_in e.happening)
    same-list = sym (listed_same e.happening)

    told_is : all_told (keys_of r) r.sets (cell_then r e) (number_of (content_in e).channel) now (swept_by r e) (content_in e).entries
        ≡ map_at (λ i x. toldTo s es e keys sets (take i (event_entries e)) x) 0 (event_entries e)
    unfolding all_after
    told_is =
        ap (λ (l : Listed). all_told (keys_of r) r.sets (cell_then r e) (number_of l.channel) now (swept_by r e) l.entries) same-list
        ∙ told-all [] (event_entries e) (event_entries e) refl

    pub accepted-reply : reply_of (step_of r e) ≡ acceptedBy s es e keys sets
    accepted-reply =
        ap reply_of (stepped r e p)
        ∙ λ i.
        record {
          refusal = no_refusal;
          expired = expiries i;
          dropped = drops i;
          count = ap (λ (l : Listed). length l.entries) same-list i;
          entries = ap laid_out told_is i;
          paged = paged-same e.happening i;
        }

  grounds-same : (e : Event) → refusal_of r e ≡ ground_by s es e
  unfolding refusal_of late
  grounds-same e =
      ap (λ (b : Bool). pick b (ground 9) (grounds_of e.happening)) (ap (leb late_step) (ap (wrap_sub e.tick) (clock_is s keys sets t z es ts)))
      ∙ by-test (leb late_step (wrap_sub e.tick (last_tick s es)))
      (λ q. rw (q, le-ltb (wrap_sub e.tick (last_tick s es)) late_step (leb-true late_step (wrap_sub e.tick (last_tick s es)) q)))
      (λ q. rw (q, lt-ltb (wrap_sub e.tick (last_tick s es)) late_step (leb-false late_step (wrap_sub e.tick (last_tick s es)) q)))

  pub reply : (e : Event) → e.tick < 2 ^ 32 → reply_of (step_of r e) ≡ reply_by s es e keys sets
  unfolding reply_by
  reply e k =
      let v : accepts r.tick e ≡ accepts (last_tick s es) e = ap (λ (n : ℕ). accepts n e) (clock_is s keys sets t z es ts) in
      by-test (accepts (last_tick s es) e)
      (λ p. rw p (accepted-reply e k (v ∙ p)))
      (λ p. rw p (ap reply_of (not_stepped r e (v ∙ p)) ∙ ap refused_by (grounds-same e)))

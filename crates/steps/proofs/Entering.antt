-- What the events go by: one entry, then all entries of a message, then the whole answer. Assumes nothing.
use mathlib.Core.Path.{◌≡◌, refl, sym, ap, ◌∙◌}
use mathlib.Core.List.{List, [], ◌∷◌, ◌++◌}
use mathlib.Core.Bool.{Bool, true, false}
use Prim.Native.Nat.{ℕ, ◌+◌, ◌≤◌, ◌<◌}
use native.Mathlib.Numerals.{add-one}
use native.Mathlib.Omega.{arith}
use lib.ListN.{length, get_or, set, take, length-take}
use lib.Seq.{take-suc, take_all}
use borrow.Author.Tests.{lt-ltb, le-ltb, eq-eqb, ne_eqb}
use Rattle.csn1.specs.declared.Refusal.{Refusal}
use Rattle.csn1.specs.Format.{no_refusal, ground}
use Rattle.csn1.specs.Told.{padded}
use Rattle.receiver.specs.declared.Record.{Record}
use Rattle.receiver.specs.declared.Slot.{Slot}
use Rattle.receiver.specs.declared.Receiver.{Receiver}
use Rattle.receiver.specs.declared.Told.{Told}
use Rattle.receiver.specs.declared.Met.{Met}
use Rattle.receiver.specs.declared.Rule.{Rule}
use Rattle.receiver.specs.declared.Cell.{Cell}
use Rattle.receiver.specs.declared.Paged.{Paged}
use Rattle.receiver.specs.Channels.{key_count, place_on, number_of}
use Rattle.steps.specs.declared.entries.Entries.{Entries}
use Rattle.steps.specs.Entries.{entries_in}
use Rattle.receiver.proofs.Accepted.{few, take-padded, length-told}
use Rattle.receiver.proofs.Loops.{padded_snoc}
use Rattle.receiver.proofs.Entering.{after_snoc}
use Rattle.receiver.specs.declared.Answer.{Answer}
use Rattle.receiver.specs.Model.{no_record, no_paged, empty_slot, late, key_of, keys_of, index_of, swept_slots, expired_of, dropped_of, meet_of, remade, with_slots}
use Rattle.receiver.specs.Step.{most_entries, Event, Happening, content_of, cell_after, rule_by, set_at, told_as, told_only, told_of, slots_after, all_after}
use Rattle.receiver.specs.Step.{all_told, no_told, grounds_of, refusal_of, refused_with, accepted_with, accepted_as, step_of}

-- ## One entry

module _ (keys sets : List ℕ) (cell : Cell) (ch now : ℕ) (slots : List Slot) (e : Record) {key i : ℕ} (ek : key ≡ key_of e.call) (ei : i ≡ index_of keys key) where
  at_key : i ≡ index_of keys (key_of e.call)
  at_key = ei ∙ ap (index_of keys) ek

  module _ (h : key_count ≤ i) where
    pub miss-told : told_only key 0 ≡ told_of keys sets cell ch now slots e
    unfolding told_of
    miss-told = rw (ek, le-ltb (index_of keys (key_of e.call)) key_count (omega (arith, at_key)))

    pub miss_slots : slots ≡ slots_after keys ch now slots e
    unfolding slots_after
    miss_slots = rw (le-ltb (index_of keys (key_of e.call)) key_count (omega (arith, at_key)))

  module _ (h : i < key_count) {m : Met} (em : m ≡ meet_of ch now (get_or slots (place_on i ch) empty_slot) e) where
    pub hit_told : told_as (set_at sets i) cell key m.number m.told ≡ told_of keys sets cell ch now slots e
    unfolding told_of
    hit_told = rw (em, at_key, ek, lt-ltb (index_of keys (key_of e.call)) key_count (omega (arith, at_key)))

    pub hit_slots : set slots (place_on i ch) m.held ≡ slots_after keys ch now slots e
    unfolding slots_after
    hit_slots = rw (em, at_key, lt-ltb (index_of keys (key_of e.call)) key_count (omega (arith, at_key)))

-- ## All entries

module _ (keys sets : List ℕ) (cell : Cell) (ch now : ℕ) where
  told_snoc : (slots : List Slot) (es : List Record) (e : Record)
      → all_told keys sets cell ch now slots (es ++ (e ∷ [])) ≡ all_told keys sets cell ch now slots es ++ (told_of keys sets cell ch now (all_after keys ch now slots es) e ∷ [])
  unfolding all_told all_after
  told_snoc slots [] e = refl
  told_snoc slots (x ∷ es) e = ap (λ (l : List Told). told_of keys sets cell ch now slots x ∷ l) (told_snoc (slots_after keys ch now slots x) es e)

-- after i of the entries es: the receiver, and what was told
pub record Entered (r : Receiver) (ch now : ℕ) (es : List Record) (entries : List Told) (after : Receiver) (i : ℕ) : Type 0 where
  pub state : after ≡ with_slots r (all_after (keys_of r) ch now r.slots (take i es))
  pub told : entries ≡ padded no_told most_entries (all_told (keys_of r) r.sets r.cell ch now r.slots (take i es))

module _ (r : Receiver) (ch now : ℕ) (es : List Record) where
  pub entered_begin : (entries : List Told) → entries ≡ padded no_told most_entries [] → Entered r ch now es entries r 0
  unfolding all_after all_told
  entered_begin entries e = record { state = refl; told = e }

  module _ (entries : List Told) (after : Receiver) (i : ℕ) (w : Entered r ch now es entries after i) where
    -- one more
    pub entered_next : (e : Record) → i < most_entries → i < length es → e ≡ get_or es i no_record → (t : Told) (a : Receiver)
        → t ≡ told_of (keys_of after) after.sets after.cell ch now after.slots e → a ≡ with_slots after (slots_after (keys_of after) ch now after.slots e)
        → Entered r ch now es (set entries i t) a (i + 1)
    entered_next e room h g t a et ea =
        let l : List Slot = all_after (keys_of r) ch now r.slots (take i es) in
        let k : take (i + 1) es ≡ take i es ++ (e ∷ []) = ap (λ (j : ℕ). take j es) (add-one i) ∙ take-suc es i no_record h ∙ ap (λ (x : Record). take i es ++ (x ∷ [])) (sym g) in
        let ts : List Told = all_told (keys_of r) r.sets r.cell ch now r.slots (take i es) in
        let n : length ts ≡ i = length-told (keys_of r) r.sets r.cell ch now r.slots (take i es) ∙ rw length-take (omega arith) in
        record {
          state = rw (ea, w.state, k, after_snoc (keys_of r) r.sets r.cell ch now r.slots (take i es) e);
          told =
              rw (
                et,
                w.state,
                w.told,
                k,
                told_snoc (keys_of r) r.sets r.cell ch now r.slots (take i es) e,
                padded_snoc no_told most_entries ts (told_of (keys_of r) r.sets r.cell ch now l e) (omega (arith, n)),
                n,
              );
        }

    pub entered_all : length es ≤ i
        → (entries ≡ padded no_told most_entries (all_told (keys_of r) r.sets r.cell ch now r.slots es)) × (after ≡ with_slots r (all_after (keys_of r) ch now r.slots es))
    entered_all h = (rw (take_all i es h) at w.told, rw (take_all i es h) at w.state)

-- ## The whole answer

module _ (r : Receiver) (e : Event) where
  step-refused : (w : Refusal) → refusal_of r e ≡ w → (w.number ≡ 0 → ⊥) → refused_with r w ≡ step_of r e
  unfolding step_of
  step-refused w x n = rw (x, ne_eqb w.number 0 n)

  step-accepted : (refusal_of r e).number ≡ 0 → accepted_as r e.tick (content_of e.happening) ≡ step_of r e
  unfolding step_of
  step-accepted z = rw (eq-eqb (refusal_of r e).number 0 z)

-- one sweep, the new tick and what is known of the cell, then all entries
module _ (r : Receiver) (now ch : ℕ) (cell : Cell) (rule : Rule) (es : List Record) where
  abbrev whole : Refusal → ℕ → ℕ → ℕ → List Told → Paged → Receiver → Answer
  whole w x d n entries p after =
      record { refusal = w; expired = x; dropped = d; count = n; entries = entries; paged = p; receiver = after }

  -- the receiver as the entries find it
  abbrev met : Receiver → Receiver
  met swept = remade swept swept.slots now cell

  pub accepted-told : {w : Refusal} {x d n : ℕ} {swept : Receiver} {entries : List Told} {p : Paged} {after : Receiver} → w ≡ no_refusal
      → swept ≡ with_slots r (swept_slots r now rule) → x ≡ expired_of r now r.slots → d ≡ dropped_of r now rule → n ≡ length es
      → entries ≡ padded no_told most_entries (all_told (keys_of swept) swept.sets cell ch now swept.slots es) → after ≡ with_slots (met swept) (all_after (keys_of swept) ch now swept.slots es)
      → p ≡ no_paged → whole w x d n entries p after ≡ accepted_with r now rule cell ch es no_paged
  accepted-told ew es₀ ex ed en et ea ep = rw (et, ea, ew, ex, ed, en, ep, es₀)

-- an answer that says who is paged
abbrev pub paging : Answer → Paged → Answer
paging a p =
    record { refusal = a.refusal; expired = a.expired; dropped = a.dropped; count = a.count; entries = a.entries; paged = p; receiver = a.receiver }

-- an event against a receiver; b: whether it is late, as was tested. The clock goes before the rest.
module _ (r : Receiver) (t : ℕ) (h : Happening) {b : Bool} (q : b ≡ late t r.tick) where
  abbrev event : Event
  event = record { tick = t; happening = h }

  pub is-late : b ≡ true → {w : Refusal} → w ≡ ground 9 → refused_with r w ≡ step_of r event
  unfolding refusal_of ground
  is-late l {w} x = step-refused r event w (rw (sym q ∙ l, x)) (λ z. omega (arith, ap (λ (y : Refusal). y.number) x))

  module _ (l : b ≡ false) where
    pub is-refused : {w : Refusal} → w ≡ grounds_of h → (w.number ≡ 0 → ⊥) → refused_with r w ≡ step_of r event
    unfolding refusal_of
    is-refused {w} x n = step-refused r event w (rw (sym q ∙ l, x)) n

    module _ (z : (grounds_of h).number ≡ 0) {e : Entries} (x : e ≡ entries_in (content_of h).entries) where
      pub is-few : e.count ≤ most_entries
      is-few = rw x (few h z)

      -- the rule, the cell, the entries and who is paged are those of what is in the event
      pub is-accepted : {rule : Rule} {cell : Cell} {p : Paged} → rule ≡ rule_by r (content_of h).cause → cell ≡ cell_after r.cell (content_of h).cause (content_of h).news
          → p ≡ (content_of h).paged → accepted_with r t rule cell (number_of (content_of h).channel) (take e.count e.items) p ≡ step_of r event
      unfolding refusal_of
      is-accepted a c d = rw (a, c, d, x, take-padded no_record most_entries (content_of h).entries (few h z)) (step-accepted r event (rw (sym q ∙ l) z))

-- Where a call's half stands among the places of the receiver, and what the entries of a message do there. Assumes nothing.
use mathlib.Core.Path.{◌≡◌, refl, sym, ap, ap₂, ◌∙◌}
use mathlib.Core.Bool.{true, false}
use mathlib.Core.List.{List, [], ◌∷◌}
use mathlib.Core.Option.{Option}
use Prim.Native.Nat.{ℕ, ◌^◌, ◌≤◌, ◌<◌}
use lib.Dec.{eqb}
use lib.ListN.{length, get_or, length-set}
use lib.Seq.{get_or-set_same, get_or-set_other}
use borrow.Author.Tests.{eqb-true, eqb-false, lt-ltb}
use Rattle.receiver.specs.declared.Record.{Record}
use Rattle.receiver.specs.declared.Slot.{Slot}
use Rattle.receiver.specs.declared.Told.{Told}
use Rattle.receiver.specs.declared.Cell.{Cell}
use Rattle.receiver.specs.Model.{empty_slot, key_of, index_of, meet_of}
use Rattle.receiver.specs.Step.{place_of, ours, met_at, set_at, slots_after, told_of, all_after, all_told}
use Rattle.receiver.specs.Channels.{key_count, places, place_on, Channel, number_of}
use Rattle.isolation.specs.One.{Half, Said, Heard, Following, said_by, meet_one, mine, held_after_of, said_of}
use Rattle.isolation.specs.Promises.{under, held_of}
use Rattle.isolation.proofs.Places.{place_lt, same_place, same_side}
use Rattle.receiver.proofs.Keys.{same_index}
use Rattle.isolation.proofs.Cells.{known, follow-same}
use Rattle.isolation.proofs.Meets.{meet_same, Sound, meet_sound}
use Rattle.receiver.proofs.Cases.{by-test}

-- ## The place of a key on a channel

abbrev pub place_at : List ℕ → ℕ → Channel → ℕ
place_at keys key c = place_on (index_of keys key) (number_of c)

-- ## The entries of a message

-- an answer as one call hears it
abbrev pub said_in : Told → Said
said_in t = record { number = t.number; told = t.«record»; follow = t.follow; kept = t.kept }

module _ (keys : List ℕ) (now : ℕ) where
  length-after : (ch : ℕ) (l : List Slot) (e : Record) → length (slots_after keys ch now l e) ≡ length l
  unfolding slots_after
  length-after ch l e = by-test (ours keys e) (λ p. rw p (length-set l (place_of keys ch e) (met_at keys ch now l e).held)) (λ p. rw p)

  pub length-all : (ch : ℕ) (l : List Slot) (es : List Record) → length (all_after keys ch now l es) ≡ length l
  unfolding all_after
  length-all ch l [] = refl
  length-all ch l (e ∷ es) = length-all ch (slots_after keys ch now l e) es ∙ length-after ch l e

  -- an entry leaves every place but its own
  pub missed : (ch i : ℕ) (l : List Slot) (e : Record) → (i ≡ place_of keys ch e → ⊥) → get_or (slots_after keys ch now l e) i empty_slot ≡ get_or l i empty_slot
  unfolding slots_after
  missed ch i l e n =
      by-test (ours keys e) (λ p. rw p (get_or-set_other l (place_of keys ch e) i (met_at keys ch now l e).held empty_slot n)) (λ p. rw p)

  module _ (key : ℕ) (c : Channel) where
    -- the entries on the other channel
    pub other-channel : (d : Channel) → (number_of c ≡ number_of d → ⊥) → (l : List Slot) (es : List Record)
        → get_or (all_after keys (number_of d) now l es) (place_at keys key c) empty_slot ≡ get_or l (place_at keys key c) empty_slot
    unfolding all_after
    other-channel d n l [] = refl
    other-channel d n l (e ∷ es) =
        other-channel d n (slots_after keys (number_of d) now l e) es
        ∙ missed (number_of d) (place_at keys key c) l e (λ p. n (same_side (index_of keys key) (index_of keys (key_of e.call)) c d p))

    module _ (subscribed : index_of keys key < key_count) where
      -- an entry under another key
      other_key : (l : List Slot) (e : Record) → (key_of e.call ≡ key → ⊥)
          → get_or (slots_after keys (number_of c) now l e) (place_at keys key c) empty_slot ≡ get_or l (place_at keys key c) empty_slot
      other_key l e n =
          missed (number_of c) (place_at keys key c) l e
          (λ p. n (sym (same_index keys key (key_of e.call) subscribed (same_place (index_of keys key) (index_of keys (key_of e.call)) c c p))))

      -- an entry under the key
      our-slot : (l : List Slot) (e : Record) → length l ≡ places → key_of e.call ≡ key
          → get_or (slots_after keys (number_of c) now l e) (place_at keys key c) empty_slot ≡ (meet_of (number_of c) now (get_or l (place_at keys key c) empty_slot) e).held
      unfolding slots_after
      our-slot l e n p =
          rw (p, lt-ltb (index_of keys key) key_count subscribed)
          (get_or-set_same l (place_at keys key c) (meet_of (number_of c) now (get_or l (place_at keys key c) empty_slot) e).held empty_slot (rw n (place_lt (index_of keys key) c subscribed)))

      our-held : (l : List Slot) (e : Record) → length l ≡ places → (get_or l (place_at keys key c) empty_slot).half ≤ 2 → key_of e.call ≡ key
          → held_of now (get_or (slots_after keys (number_of c) now l e) (place_at keys key c) empty_slot) ≡ (meet_one c (held_of now (get_or l (place_at keys key c) empty_slot)) e).held
      our-held l e n h p = ap (held_of now) (our-slot l e n p) ∙ ap (λ (x : Heard). x.held) (meet_same c now (get_or l (place_at keys key c) empty_slot) e h)

      module _ (sets : List ℕ) (cell : Cell) where
        -- the set of its group keys
        abbrev own : ℕ
        own = set_at sets (index_of keys key)

        pub told-key : (l : List Slot) (e : Record) → (told_of keys sets cell (number_of c) now l e).key ≡ key_of e.call
        unfolding told_of
        told-key l e = by-test (ours keys e) (λ p. rw p) (λ p. rw p)

        pub our-said : (l : List Slot) (e : Record) → (get_or l (place_at keys key c) empty_slot).half ≤ 2 → key_of e.call ≡ key
            → said_in (told_of keys sets cell (number_of c) now l e) ≡ said_by own (known c cell) (meet_one c (held_of now (get_or l (place_at keys key c) empty_slot)) e)
        unfolding told_of
        our-said l e h p =
            let m = meet_of (number_of c) now (get_or l (place_at keys key c) empty_slot) e in
            rw (p, lt-ltb (index_of keys key) key_count subscribed)
            (ap (λ (f : Following). record { number = m.number; told = m.told; follow = f.follow; kept = f.kept }) (follow-same own cell m.number m.told.call.cipher)
            ∙ ap (said_by own (known c cell)) (meet_same c now (get_or l (place_at keys key c) empty_slot) e h))

      module _ (sets : List ℕ) (cell : Cell) (timer : ℕ) (t : now < 2 ^ 32) (some : 1 ≤ timer) where
        -- what the entries do to the half and are told, beside what they do at the one-call receiver
        pub record Same (l : List Slot) (es : List Record) : Type 0 where
          pub held : held_of now (get_or (all_after keys (number_of c) now l es) (place_at keys key c) empty_slot)
              ≡ held_after_of c (held_of now (get_or l (place_at keys key c) empty_slot)) (mine key es)
          pub said : under key (all_told keys sets cell (number_of c) now l es) ≡ said_of c (own sets cell) (known c cell) (held_of now (get_or l (place_at keys key c) empty_slot)) (mine key es)
          pub sound : Sound now timer (get_or (all_after keys (number_of c) now l es) (place_at keys key c) empty_slot)

        hit : (l : List Slot) (e : Record) (es : List Record) → length l ≡ places → Sound now timer (get_or l (place_at keys key c) empty_slot) → eqb (key_of e.call) key ≡ true
            → Same (slots_after keys (number_of c) now l e) es → Same l (e ∷ es)
        unfolding all_after all_told mine held_after_of said_of under
        hit l e es n p q r =
            let k : key_of e.call ≡ key = eqb-true (key_of e.call) key q in
            let h = our-held l e n p.half k in
            record {
              held = rw q (r.held ∙ ap (λ (x : Option Half). held_after_of c x (mine key es)) h);
              said =
                  rw (told-key sets cell l e, q)
                  (ap₂ (λ (x : Said) (y : List Said). x ∷ y) (our-said sets cell l e p.half k)
                  (r.said ∙ ap (λ (x : Option Half). said_of c (own sets cell) (known c cell) x (mine key es)) h));
              sound = r.sound;
            }

        miss : (l : List Slot) (e : Record) (es : List Record) → eqb (key_of e.call) key ≡ false → Same (slots_after keys (number_of c) now l e) es → Same l (e ∷ es)
        unfolding all_after all_told mine held_after_of said_of under
        miss l e es q r =
            let h = other_key l e (eqb-false (key_of e.call) key q) in
            record {
              held = rw q (r.held ∙ ap (λ (s : Slot). held_after_of c (held_of now s) (mine key es)) h);
              said = rw (told-key sets cell l e, q) (r.said ∙ ap (λ (s : Slot). said_of c (own sets cell) (known c cell) (held_of now s) (mine key es)) h);
              sound = r.sound;
            }

        pub entries : (l : List Slot) (es : List Record) → length l ≡ places → Sound now timer (get_or l (place_at keys key c) empty_slot) → Same l es
        unfolding all_after all_told mine held_after_of said_of under
        entries l [] n p = record { held = refl; said = refl; sound = p }
        entries l (e ∷ es) n p =
            let m : length (slots_after keys (number_of c) now l e) ≡ places = length-after (number_of c) l e ∙ n in
            by-test (eqb (key_of e.call) key)
            (λ q. hit l e es n p q (entries (slots_after keys (number_of c) now l e) es m
            (rw (our-slot l e n (eqb-true (key_of e.call) key q)) (meet_sound now timer t some c (get_or l (place_at keys key c) empty_slot) e p))))
            (λ q. miss l e es q (entries (slots_after keys (number_of c) now l e) es m (rw (other_key l e (eqb-false (key_of e.call) key q)) p)))

-- What an entry leaves in the octets, by cases: a law for each return of `tell`. Assumes nothing.
use mathlib.Core.Path.{◌≡◌, refl, sym, ap, ap₂, ◌∙◌}
use mathlib.Core.Bool.{true, false}
use mathlib.Core.List.{List}
use mathlib.Core.Logic.{◌⊎◌, inl, inr}
use Prim.Native.Nat.{ℕ, ◌-◌, ◌≤◌, ◌<◌}
use native.Mathlib.Omega.{arith}
use lib.Dec.{leb, ltb, eqb}
use lib.ListN.{length}
use borrow.Author.Tests.{eqb-true, eqb-false, eq-eqb, ne_eqb, lt-ltb, le-ltb, le-leb, lt-leb}
use mir.Val.{Val}
use denote.Laws.{Is}
use denote.Struct.Declared.{row}
use Rattle.bits.specs.Field.{both, pick}
use Rattle.receiver.specs.declared.Record.{Record}
use Rattle.receiver.specs.declared.Slot.{Slot}
use Rattle.receiver.specs.declared.Met.{Met}
use Rattle.receiver.specs.declared.Told.{Told}
use Rattle.receiver.specs.declared.Cell.{Cell}
use Rattle.receiver.specs.declared.Paged.{Paged}
use Rattle.receiver.specs.Count.{follow_of}
use Rattle.receiver.specs.Channels.{channels, key_count, places, place_on, leads}
use Rattle.receiver.specs.Model.{no_record, empty_slot, key_of, index_of, class_of, agree, joined_of, only, complete, storing, meet_of}
use Rattle.receiver.specs.contracts.Record as Declared
use Rattle.receiver.specs.contracts.Paged as DeclaredPaged
use Rattle.receiver.proofs.Cases.{by-test}
use Rattle.receiver.proofs.Classes.{meet_whole, meet_none, meet_first, meet_second, meet_early, meet_stored, class_least}
use Rattle.receiver.specs.Step.{most_entries, set_at, told_as, told_only, slots_after, told_of}
use Rattle.layout.specs.Octets.{octet_at}
use Rattle.layout.specs.Layout.{state_length, is_state, is_place, is_entry, record_at, record_octets, kind_place, record_place, slot_no}
use Rattle.layout.specs.Layout.{decode_of, carries, put_slot, put_number, put_carried, told_no, put_told, keys_in, set_no, sets_in}
use Rattle.lent.specs.Events.{met_octets, tell_octets}
use Rattle.lent.specs.Inner.{Packed, met_half, Telling}
use Rattle.layout.proofs.States.{at-state, at_one, at_place, at_entry}
use Rattle.layout.proofs.Wide.{Octs, Wide, wide-none}
use Rattle.layout.proofs.Decoding.{half_of, set-of, slot_held, length_put, told_with, told-without, decode_told, told_same}
use Rattle.layout.proofs.Packing.{record_own}
use Rattle.layout.proofs.Reading.{carries-high, carries_in}
use Rattle.lent.proofs.Tellings.{telling}

-- ## What is written and read, by the functions of the layout

-- an entry's number was written alone, and with its record
abbrev Numbered : List ℕ → ℕ → ℕ → ℕ → List ℕ → Type 0
Numbered l j key c left = left ≡ pick (is_entry l j) (put_number l j (told_only key c)) l

abbrev Carried : List ℕ → ℕ → Told → List ℕ → Type 0
Carried l j t left = left ≡ pick (is_entry l j) (put_carried l j t) l

module _ (l : List ℕ) (j : ℕ) (whole : length l ≡ state_length) (a : j < most_entries) where
  told-bare : (key c : ℕ) (left : List ℕ) → carries c ≡ false → Numbered l j key c left → left ≡ put_told l j (told_only key c)
  told-bare key c left h p = p ∙ at_entry l j (put_number l j (told_only key c)) l whole a ∙ sym (told-without l j (told_only key c) h)

  told-carried : (t : Told) (left : List ℕ) → carries t.number ≡ true → Carried l j t left → left ≡ put_told l j t
  told-carried t left h p = p ∙ at_entry l j (put_carried l j t) l whole a ∙ sym (told_with l j t h)

-- a number beside which nothing is said of following
as_only : (set : ℕ) (cell : Cell) (key c : ℕ) → both (leb 2 c) (leb c 3) ≡ false → told_as set cell key c no_record ≡ told_only key c
unfolding follow_of
as_only set cell key c p = rw p

not_followed : (c : ℕ) → 4 < c → both (leb 2 c) (leb c 3) ≡ false
not_followed c h = rw (le-leb 2 c (omega arith), lt-leb c 3 (omega arith))

-- the set of a subscription, as the code reads it
set-read : (l : List ℕ) (i : ℕ) → length l ≡ state_length → i < key_count → (set : ℕ) → set ≡ pick (both (is_state l) (ltb i key_count)) (set_no l i) 0
    → set ≡ set_at (sets_in l) i
set-read l i whole h set p = p ∙ at_one l key_count i (set_no l i) 0 whole h ∙ sym (set-of l i h)

-- at the place of subscription i on channel ch, which the code calls at
module _ (l : List ℕ) (ch i at : ℕ) (whole : length l ≡ state_length) (q : (at ≡ place_on i ch) × (at < places)) where
  half-read : (r : ℕ) → r ≡ pick (is_place l at) (octet_at l (kind_place at)) 0 → (slot_no l (place_on i ch)).half ≡ r
  half-read r h = half_of l (place_on i ch) ∙ ap (λ x. octet_at l (kind_place x)) (sym q.0) ∙ sym (h ∙ at_place l at _ 0 whole q.1)

  record_read : (x : Record) → x ≡ pick (is_place l at) (record_at l (record_place at)) no_record → ((slot_no l (place_on i ch)).half ≡ 0 → ⊥)
      → (slot_no l (place_on i ch)).«record» ≡ x
  record_read x h n =
      ap (λ (s : Slot). s.«record») (slot_held l (place_on i ch) (λ z. n (half_of l (place_on i ch) ∙ z))) ∙ ap (λ x. record_at l (record_place x)) (sym q.0)
      ∙ sym (h ∙ at_place l at _ no_record whole q.1)

  slot_put : (s : Slot) (mid : List ℕ) → mid ≡ pick (is_place l at) (put_slot l at s) l → mid ≡ put_slot l (place_on i ch) s
  slot_put s mid h = h ∙ at_place l at (put_slot l at s) l whole q.1 ∙ ap (λ x. put_slot l x s) q.0

-- ## What an outcome leaves

module _ (l : List ℕ) (cell : Cell) (ch j i k : ℕ) where
  -- what is told under its set of group keys
  abbrev answer : ℕ → Record → Told
  answer c e = told_as (set_at (sets_in l) i) cell k c e

  -- the place stays as it is
  met-kept : (m : Met) → (m.number < 3) ⊎ (4 < m.number) → met_octets l cell ch j i k m ≡ put_told l j (answer m.number m.told)
  met-kept m (inl h) = simp (le-ltb 2 m.number (omega arith))
  met-kept m (inr h) = simp (lt-ltb 2 m.number (omega arith), le-ltb m.number 5 (omega arith))

  -- the place is written
  met_put : (m : Met) → 2 < m.number → m.number < 5 → met_octets l cell ch j i k m ≡ put_told (put_slot l (place_on i ch) m.held) j (answer m.number m.told)
  met_put m h q = simp (lt-ltb 2 m.number h, lt-ltb m.number 5 q)

-- ## A half that comes where one is held: key and half are its own, r is the half that was read there

module _ (l : List ℕ) (cell : Cell) (ch j i at half : ℕ) (e : Record) (whole : length l ≡ state_length) (a : j < most_entries) (q : (at ≡ place_on i ch) × (at < places))
    (n : (slot_no l (place_on i ch)).half ≡ 0 → ⊥) (key : ℕ) (k : key ≡ key_of e.call) (r : ℕ) (h : r ≡ pick (is_place l at) (octet_at l (kind_place at)) 0) where
  abbrev Leaves : List ℕ → Type 0
  Leaves left = left ≡ met_octets l cell ch j i (key_of e.call) (met_half half (slot_no l (place_on i ch)) e)

  abbrev there : Slot
  there = slot_no l (place_on i ch)

  -- the place stays as it is
  stays : (c : ℕ) (left : List ℕ) → 4 < c → met_half half there e ≡ only c there → Numbered l j key c left → Leaves left
  stays c left b m p =
      told-bare l j whole a key c left (carries-high c (omega arith)) p ∙ ap (λ x. put_told l j (told_only x c)) k
      ∙ sym (ap (met_octets l cell ch j i (key_of e.call)) m ∙ met-kept l cell ch j i (key_of e.call) (only c there) (inr b)
      ∙ ap (put_told l j) (as_only _ cell (key_of e.call) c (not_followed c b)))

  -- the same half again
  pub left-again : (left : List ℕ) → r ≡ half → Numbered l j key 5 left → Leaves left
  left-again left o p = stays 5 left (omega arith) (simp (ne_eqb there.half 0 n, eq-eqb there.half half (half-read l ch i at whole q r h ∙ o))) p

  module _ (o : r ≡ half → ⊥) (x : Record) (v : x ≡ pick (is_place l at) (record_at l (record_place at)) no_record) where
    other : there.half ≡ half → ⊥
    other w = o (sym (half-read l ch i at whole q r h) ∙ w)

    held : there.«record» ≡ x
    held = record_read l ch i at whole q x v n

    -- the opposite half, of another reference
    pub left-apart : (left : List ℕ) → agree x e ≡ false → Numbered l j key 7 left → Leaves left
    left-apart left g p = stays 7 left (omega arith) (simp (ne_eqb there.half 0 n, ne_eqb there.half half other, held, g)) p

    -- the opposite half: they join
    pub left-joined : (y : Record) (mid left : List ℕ) → agree x e ≡ true → y ≡ pick (eqb half 1) (joined_of e x) (joined_of x e)
        → mid ≡ pick (is_place l at) (put_slot l at empty_slot) l → i < key_count → (set : ℕ) → set ≡ pick (both (is_state l) (ltb i key_count)) (set_no l i) 0
        → (t : Told) → t ≡ told_as set cell key 3 y → Carried mid j t left → Leaves left
    left-joined y mid left g w d b set z t s p =
        let f = slot_put l ch i at whole q empty_slot mid d in
        let m : met_half half there e ≡ complete 3 y empty_slot = simp (ne_eqb there.half 0 n, ne_eqb there.half half other, held, g) (ap (λ u. complete 3 u empty_slot) (sym w)) in
        let o : t ≡ told_as (set_at (sets_in l) i) cell (key_of e.call) 3 y = s ∙ ap₂ (λ u v. told_as u cell v 3 y) (set-read l i whole b set z) k in
        told-carried mid j (ap length f ∙ length_put l (place_on i ch) empty_slot ∙ whole) a t left (ap (λ (u : Told). carries u.number) o) p ∙ ap₂ (λ u v. put_told v j u) o f
        ∙ sym (ap (met_octets l cell ch j i (key_of e.call)) m ∙ met_put l cell ch j i (key_of e.call) (complete 3 y empty_slot) (omega arith) (omega arith))

-- ## An entry under a key of ours, by its class

module _ (l : List ℕ) (cell : Cell) (ch now j i : ℕ) (e : Record) (whole : length l ≡ state_length) (a : j < most_entries) (key c : ℕ) (k : key ≡ key_of e.call) (q : c ≡ class_of ch e) where
  abbrev Meets : List ℕ → Type 0
  Meets left = left ≡ met_octets l cell ch j i (key_of e.call) (meet_of ch now (slot_no l (place_on i ch)) e)

  abbrev slot : Slot
  slot = slot_no l (place_on i ch)

  -- an outcome that keeps the place
  keeps : (m : Met) (left : List ℕ) → (m.number < 3) ⊎ (4 < m.number) → m ≡ meet_of ch now slot e
      → left ≡ put_told l j (answer l cell ch j i (key_of e.call) m.number m.told) → Meets left
  keeps m left h w p = p ∙ sym (met-kept l cell ch j i (key_of e.call) m h) ∙ ap (met_octets l cell ch j i (key_of e.call)) w

  -- one that is told a number alone
  bare : (n : ℕ) (left : List ℕ) → 4 < n → Numbered l j key n left → left ≡ put_told l j (answer l cell ch j i (key_of e.call) n no_record)
  bare n left h p =
      told-bare l j whole a key n left (carries-high n (omega arith)) p ∙ ap (λ x. put_told l j (told_only x n)) k
      ∙ ap (put_told l j) (sym (as_only _ cell (key_of e.call) n (not_followed n h)))

  pub left-whole : (left : List ℕ) → c < 3 → i < key_count → (set : ℕ) → set ≡ pick (both (is_state l) (ltb i key_count)) (set_no l i) 0 → (t : Told)
      → t ≡ told_as set cell key c e → Carried l j t left → Meets left
  left-whole left h b set z t s p =
      let o : t ≡ answer l cell ch j i (key_of e.call) c e = s ∙ ap₂ (λ u v. told_as u cell v c e) (set-read l i whole b set z) k in
      keeps (complete c e slot) left (inl h) (meet_whole ch now slot e c q h)
      (told-carried l j whole a t left (ap (λ (u : Told). carries u.number) o ∙ carries_in c (omega (arith, q, class_least ch e)) (omega arith)) p ∙ ap (put_told l j) o)

  pub left-none : (left : List ℕ) → 4 < c → Numbered l j key c left → Meets left
  left-none left h p = keeps (only c slot) left (inr h) (meet_none ch now slot e c q h) (bare c left h p)

  -- a half comes to a place where half r was read
  module _ (at : ℕ) (p : (at ≡ place_on i ch) × (at < places)) (lo : 3 ≤ c) (hi : c ≤ 4) (r : ℕ) (h : r ≡ pick (is_place l at) (octet_at l (kind_place at)) 0) where
    which : (c ≡ 3) ⊎ (c ≡ 4)
    which = by-test (eqb c 3) (λ b. inl (eqb-true c 3 b)) (λ b. inr (let z = eqb-false c 3 b in omega (arith, lo, hi, z)))

    pub place-held : (r ≡ 0 → ⊥) → slot.half ≡ 0 → ⊥
    place-held n z = n (sym (half-read l ch i at whole p r h) ∙ z)

    half-met : (c ≡ 3) ⊎ (c ≡ 4) → (slot.half ≡ 0 → ⊥) → met_half (c - 2) slot e ≡ meet_of ch now slot e
    half-met (inl w) n = rw w (meet_first ch now slot e (sym w ∙ q) n)
    half-met (inr w) n = rw w (meet_second ch now slot e (sym w ∙ q) n)

    -- one is held there
    pub left-half : (left : List ℕ) → (r ≡ 0 → ⊥) → left ≡ met_octets l cell ch j i (key_of e.call) (met_half (c - 2) slot e) → Meets left
    left-half left n f = f ∙ ap (met_octets l cell ch j i (key_of e.call)) (half-met which (place-held n))

    -- none is: a second half that may not come first comes too early, any other is stored
    module _ (z : r ≡ 0) where
      empty : slot.half ≡ 0
      empty = half-read l ch i at whole p r h ∙ z

      pub left-early : (left : List ℕ) → c ≡ 4 → leads ch ≡ false → Numbered l j key 8 left → Meets left
      left-early left f g n =
          keeps (only 8 slot) left (inr (omega arith)) (meet_early ch now slot e (sym f ∙ q) empty g) (bare 8 left (omega arith) n)

      storable : (c ≡ 3) ⊎ (c ≡ 4) → (c ≡ 4 → leads ch ≡ true) → (c ≡ 3) ⊎ ((c ≡ 4) × (leads ch ≡ true))
      storable (inl w) f = inl w
      storable (inr w) f = inr (w, f w)

      pub left-stored : (mid left : List ℕ) → (c ≡ 4 → leads ch ≡ true) → mid ≡ pick (is_place l at) (put_slot l at (storing (c - 2) now e)) l
          → Numbered mid j key 4 left → Meets left
      left-stored mid left f d n =
          let s = storing (c - 2) now e in
          let g = slot_put l ch i at whole p s mid d in
          told-bare mid j (ap length g ∙ length_put l (place_on i ch) s ∙ whole) a key 4 left refl n ∙ ap₂ (λ x o. put_told o j (told_only x 4)) k g
          ∙ ap (put_told (put_slot l (place_on i ch) s) j) (sym (as_only _ cell (key_of e.call) 4 refl))
          ∙ sym (met_put l cell ch j i (key_of e.call) (only 4 s) (omega arith) (omega arith))
          ∙ ap (met_octets l cell ch j i (key_of e.call)) (meet_stored ch now slot e c q empty (storable which f))

-- ## A record that is a value of the program fits its octets

pub wide_value : (e : Record) (vs : List Val) → Is (row Declared.the_type) e vs → Wide e
wide_value e vs ok =
    record {
      reference = omega (arith, ok);
      channel = omega (arith, ok);
      frequencies = omega (arith, ok);
      rand = omega (arith, ok);
      priority = omega (arith, ok);
      cipher = omega (arith, ok);
      size = omega (arith, ok);
      cellcount = omega (arith, ok);
      fullrate = omega (arith, ok);
      halfrate = omega (arith, ok);
    }

-- and so does who is paged
pub rest-value : (p : Paged) (vs : List Val) → Is (row DeclaredPaged.the_type) p vs → p.page.identityRest < 18446744073709551616
rest-value p vs ok = omega (arith, ok)

-- ## Its key is ours, or not: i is the index that was found

module _ (l : List ℕ) (cell : Cell) (ch now j i : ℕ) (e : Record) (key : ℕ) (k : key ≡ key_of e.call) (whole : length l ≡ state_length)
    (w : i ≡ pick (is_state l) (index_of (keys_in l) key) key_count) (left : List ℕ) where
  index_is : i ≡ index_of (keys_in l) (key_of e.call)
  index_is = w ∙ at-state l (index_of (keys_in l) key) key_count whole ∙ ap (index_of (keys_in l)) k

  octets-ours : i < key_count → left ≡ met_octets l cell ch j i (key_of e.call) (meet_of ch now (slot_no l (place_on i ch)) e) → left ≡ tell_octets l cell ch now j e
  unfolding tell_octets
  octets-ours h p = rw (← index_is, lt-ltb i key_count h) p

  octets-other : key_count ≤ i → left ≡ put_told l j (told_only key 0) → left ≡ tell_octets l cell ch now j e
  unfolding tell_octets
  octets-other h p = rw (← index_is, le-ltb i key_count h) (p ∙ ap (λ x. put_told l j (told_only x 0)) k)

  -- a key that is not ours: the record need not be known
  pub telling-other : key_count ≤ i → j < most_entries → key < 18446744073709551616 → Numbered l j key 0 left → Telling l cell ch now j e left
  unfolding slots_after told_of
  telling-other h a lt n =
      let p = told-bare l j whole a key 0 left refl n in
      record {
        octets = octets-other h p;
        places = rw (← index_is, le-ltb i key_count h) (ap decode_of p ∙ decode_told l j (told_only key 0) a);
        told =
            rw (← index_is, le-ltb i key_count h, ← k)
            (ap (λ x. told_no x j) p ∙ told_same l j (told_only key 0) whole a lt wide-none (λ q. refl));
      }

  pub telling-ours : i < key_count → Octs l → ch < channels → j < most_entries → now < 4294967296 → Wide e
      → left ≡ met_octets l cell ch j i (key_of e.call) (meet_of ch now (slot_no l (place_on i ch)) e) → Telling l cell ch now j e left
  telling-ours h o b a t v p = rw (octets-ours h p) (telling l cell ch now j e whole o b a t v)

-- ## Octets that are a record's own

module _ (e : Record) (w : Wide e) (o : List ℕ) (p : o ≡ record_octets e) where
  own_record : record_at o 0 ≡ e
  own_record = ap (λ (x : List ℕ). record_at x 0) p ∙ record_own e w

  -- what they must be to be told
  pub own-asked : (ch key c : ℕ) → key ≡ key_of e.call → c ≡ class_of ch e → Packed o × ((key ≡ key_of (record_at o 0).call) × (c ≡ class_of ch (record_at o 0)))
  own-asked ch key c k q =
      (p ∙ ap record_octets (sym own_record), (k ∙ ap (λ (x : Record). key_of x.call) (sym own_record), q ∙ ap (class_of ch) (sym own_record)))

  -- and what telling them leaves
  pub own-met : (l left : List ℕ) (cell : Cell) (ch now j i : ℕ)
      → left ≡ met_octets l cell ch j i (key_of (record_at o 0).call) (meet_of ch now (slot_no l (place_on i ch)) (record_at o 0))
      → left ≡ met_octets l cell ch j i (key_of e.call) (meet_of ch now (slot_no l (place_on i ch)) e)
  own-met l left cell ch now j i h = h ∙ ap (λ (x : Record). met_octets l cell ch j i (key_of x.call) (meet_of ch now (slot_no l (place_on i ch)) x)) own_record

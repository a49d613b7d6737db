-- What octets are read as after each write. Assumes nothing.
use mathlib.Core.Path.{◌≡◌, refl, ap, ap₂, sym, ◌∙◌}
use mathlib.Core.Bool.{Bool, true, false, not}
use mathlib.Core.List.{List, [], ◌∷◌, ◌++◌, append_assoc, append-nil}
use Prim.Native.Nat.{ℕ, ◌+◌, ◌*◌, ◌^◌, ◌≤◌, ◌<◌}
use native.Mathlib.Nat.{add-zero, zero-add}
use native.Mathlib.Omega.{arith}
use lib.Dec.{eqb, ltb, lit<, lit≤}
use lib.ListN.{length, get_or, set, replicate, length-append, length-set}
use lib.Seq.{get_or-set_same, get_or-set_other, set-get_or}
use borrow.Author.Tests.{eqb-true, ltb-true, ltb-false, eq-eqb, ne_eqb, eqb-false}
use Rattle.bits.specs.Field.{pick}
use Rattle.csn1.specs.Told.{as_bit}
use Rattle.arrays.specs.Runs.{stored}
use Rattle.arrays.proofs.Running.{length-stored, stored-before, stored-after, stored_in}
use Rattle.receiver.specs.declared.Cell.{Cell}
use Rattle.receiver.specs.declared.Receiver.{Receiver}
use Rattle.receiver.specs.declared.Record.{Record}
use Rattle.receiver.specs.declared.Slot.{Slot}
use Rattle.receiver.specs.declared.Told.{Told}
use Rattle.receiver.specs.declared.Paged.{Paged}
use Rattle.receiver.specs.Channels.{key_count, places}
use Rattle.receiver.specs.Model.{no_record, no_paged, empty_slot, remade, with_slots}
use Rattle.receiver.specs.Step.{most_entries, no_told}
use Rattle.receiver.proofs.Cases.{by-test}
use Rattle.layout.specs.Octets.{le_at, flag_at, low_octets, tabulate}
use Rattle.layout.specs.Layout.{tick_from, timers_from, cell_from, count_from, keys_from, sets_from, kinds_from, record_size, answer_from, paged_from, tolds_from, told_length, state_length, record_at, entry_flags, message_flags, small_numbers, wide_octets, record_octets, kind_place}
use Rattle.layout.specs.Layout.{since_place, record_place, slot_no, key_no, set_no, cell_at, cell_octets, decode_of, put_slot, told_place, carries, told_no, paged_at, paged_octets, last_of, put_number, put_carried, put_told, put_counts, put_head}
use Rattle.layout.proofs.Numbers.{length-octets, le_ext, le_stored, le_zero, le_alone, le_before, length-table, get_d_table, table_ext, table-set}
use Rattle.layout.proofs.Wide.{Wide, wide-none}

-- ## A record

pub length_record : (r : Record) → length (record_octets r) ≡ record_size
unfolding record_octets low_octets
length_record r = refl

flag-back : (b : Bool) → not (eqb (as_bit b) 0) ≡ b
flag-back true = refl
flag-back false = refl

-- the same octets are the same record
module _ (l l' : List ℕ) (at : ℕ) (e : (j : ℕ) → at ≤ j → j < at + record_size → get_or l' j 0 ≡ get_or l j 0) where
  octet-same : (n : ℕ) → n < record_size → get_or l' (at + n) 0 ≡ get_or l (at + n) 0
  octet-same n h = e (at + n) (omega arith) (omega arith)

  flag_same : (n : ℕ) → n < record_size → flag_at l' (at + n) ≡ flag_at l (at + n)
  flag_same n h = ap (λ (x : ℕ). not (eqb x 0)) (octet-same n h)

  le_same : (w n : ℕ) → n + w ≤ record_size → le_at w l' (at + n) ≡ le_at w l (at + n)
  le_same w n h = le_ext w l' l (at + n) (at + n) (λ m x. e (at + n + m) (omega arith) (omega arith))

  reference-same : le_at 4 l' at ≡ le_at 4 l at
  reference-same = le_ext 4 l' l at at (λ m x. e (at + m) (omega arith) (omega arith))

  record_same : record_at l' at ≡ record_at l at
  unfolding record_at
  record_same = λ i.
      record {
        full = flag_same 24 (lit< tt) i;
        call =
            record {
              reference = reference-same i;
              vgcs = flag_same 25 (lit< tt) i;
              acknowledged = flag_same 26 (lit< tt) i;
              priority = octet-same 44 (lit< tt) i;
              cipher = octet-same 45 (lit< tt) i;
              hasDescription = flag_same 27 (lit< tt) i;
              description =
                  record {
                    channel = le_same 4 4 (lit≤ tt) i;
                    hopping = flag_same 28 (lit< tt) i;
                    shortlist = flag_same 29 (lit< tt) i;
                    length = octet-same 46 (lit< tt) i;
                    frequencies = le_same 8 8 (lit≤ tt) i;
                  };
            };
        hasSegment = flag_same 30 (lit< tt) i;
        segment = flag_same 31 (lit< tt) i;
        hasRandom = flag_same 32 (lit< tt) i;
        rand = le_same 8 16 (lit≤ tt) i;
        emergency = flag_same 33 (lit< tt) i;
        common =
            record {
              hasCount = flag_same 34 (lit< tt) i;
              cellcount = octet-same 47 (lit< tt) i;
              b22 = flag_same 35 (lit< tt) i;
              hasUplink = flag_same 36 (lit< tt) i;
              uplink = flag_same 37 (lit< tt) i;
              hasAmr = flag_same 38 (lit< tt) i;
              hasFullrate = flag_same 39 (lit< tt) i;
              fullrate = octet-same 48 (lit< tt) i;
              hasHalfrate = flag_same 40 (lit< tt) i;
              halfrate = octet-same 49 (lit< tt) i;
              hasSms = flag_same 41 (lit< tt) i;
              confidential = flag_same 42 (lit< tt) i;
              private = flag_same 43 (lit< tt) i;
            };
      }

-- a number in a run of octets
pub field : (vs l : List ℕ) (at w f : ℕ) (a b : List ℕ) (k n : ℕ) → vs ≡ a ++ low_octets w f ++ b → length a ≡ k → length b ≡ n → at + (k + w + n) ≤ length l
    → f < 256 ^ w → le_at w (stored l at vs) (at + k) ≡ f
field vs l at w f a b k n e p q h lt = rw e (le_stored w f l a b at k p (omega arith) lt)

-- a record that is written reads back
module _ (l : List ℕ) (at : ℕ) (r : Record) (h : at + record_size ≤ length l) where
  octet-back : (n v : ℕ) → n < record_size → get_or (record_octets r) n 0 ≡ v → get_or (stored l at (record_octets r)) (at + n) 0 ≡ v
  octet-back n v lt e = stored_in l at (record_octets r) n (rw (length_record r) h) (rw (length_record r) lt) ∙ e

  bit-back : (n : ℕ) (b : Bool) → n < record_size → get_or (record_octets r) n 0 ≡ as_bit b → flag_at (stored l at (record_octets r)) (at + n) ≡ b
  bit-back n b lt e = ap (λ (x : ℕ). not (eqb x 0)) (octet-back n (as_bit b) lt e) ∙ flag-back b

  abbrev singles : List ℕ
  singles = entry_flags r ++ (message_flags r ++ (small_numbers r ++ replicate 6 0))

  -- a number behind k octets, with n behind it
  wide_back : (w x k n : ℕ) (p q : List ℕ) → wide_octets r ≡ p ++ low_octets w x ++ q → length p ≡ k → length (q ++ singles) ≡ n → k + w + n ≡ record_size
      → x < 256 ^ w → le_at w (stored l at (record_octets r)) (at + k) ≡ x
  unfolding record_octets
  wide_back w x k n p q e u v t lt =
      field (record_octets r) l at w x p (q ++ singles) k n (ap (λ (o : List ℕ). o ++ singles) e ∙ simp append_assoc) u v (omega arith) lt

  reference-back : r.call.reference < 4294967296 → le_at 4 (stored l at (record_octets r)) at ≡ r.call.reference
  reference-back lt =
      simp add-zero at (wide_back 4 r.call.reference 0 52 []
      (low_octets 4 r.call.description.channel ++ (low_octets 8 r.call.description.frequencies ++ low_octets 8 r.rand))
      refl refl (simp (length-append, length-octets)) refl lt)

  channel-back : r.call.description.channel < 4294967296 → le_at 4 (stored l at (record_octets r)) (at + 4) ≡ r.call.description.channel
  channel-back lt =
      wide_back 4 r.call.description.channel 4 48 (low_octets 4 r.call.reference) (low_octets 8 r.call.description.frequencies ++ low_octets 8 r.rand)
      (simp append_assoc) (length-octets 4 _) (simp (length-append, length-octets)) refl lt

  frequencies-back : r.call.description.frequencies < 18446744073709551616
      → le_at 8 (stored l at (record_octets r)) (at + 8) ≡ r.call.description.frequencies
  frequencies-back lt =
      wide_back 8 r.call.description.frequencies 8 40 (low_octets 4 r.call.reference ++ low_octets 4 r.call.description.channel) (low_octets 8 r.rand)
      (simp append_assoc) (simp (length-append, length-octets)) (simp (length-append, length-octets)) refl lt

  rand-back : r.rand < 18446744073709551616 → le_at 8 (stored l at (record_octets r)) (at + 16) ≡ r.rand
  rand-back lt =
      wide_back 8 r.rand 16 32 (low_octets 4 r.call.reference ++ (low_octets 4 r.call.description.channel ++ low_octets 8 r.call.description.frequencies)) []
      (simp (append_assoc, append-nil)) (simp (length-append, length-octets)) refl refl lt

  pub record_back : Wide r → record_at (stored l at (record_octets r)) at ≡ r
  unfolding record_at record_octets low_octets
  record_back w = λ i.
      record {
        full = bit-back 24 r.full (lit< tt) refl i;
        call =
            record {
              reference = reference-back w.reference i;
              vgcs = bit-back 25 r.call.vgcs (lit< tt) refl i;
              acknowledged = bit-back 26 r.call.acknowledged (lit< tt) refl i;
              priority = octet-back 44 r.call.priority (lit< tt) refl i;
              cipher = octet-back 45 r.call.cipher (lit< tt) refl i;
              hasDescription = bit-back 27 r.call.hasDescription (lit< tt) refl i;
              description =
                  record {
                    channel = channel-back w.channel i;
                    hopping = bit-back 28 r.call.description.hopping (lit< tt) refl i;
                    shortlist = bit-back 29 r.call.description.shortlist (lit< tt) refl i;
                    length = octet-back 46 r.call.description.length (lit< tt) refl i;
                    frequencies = frequencies-back w.frequencies i;
                  };
            };
        hasSegment = bit-back 30 r.hasSegment (lit< tt) refl i;
        segment = bit-back 31 r.segment (lit< tt) refl i;
        hasRandom = bit-back 32 r.hasRandom (lit< tt) refl i;
        rand = rand-back w.rand i;
        emergency = bit-back 33 r.emergency (lit< tt) refl i;
        common =
            record {
              hasCount = bit-back 34 r.common.hasCount (lit< tt) refl i;
              cellcount = octet-back 47 r.common.cellcount (lit< tt) refl i;
              b22 = bit-back 35 r.common.b22 (lit< tt) refl i;
              hasUplink = bit-back 36 r.common.hasUplink (lit< tt) refl i;
              uplink = bit-back 37 r.common.uplink (lit< tt) refl i;
              hasAmr = bit-back 38 r.common.hasAmr (lit< tt) refl i;
              hasFullrate = bit-back 39 r.common.hasFullrate (lit< tt) refl i;
              fullrate = octet-back 48 r.common.fullrate (lit< tt) refl i;
              hasHalfrate = bit-back 40 r.common.hasHalfrate (lit< tt) refl i;
              halfrate = octet-back 49 r.common.halfrate (lit< tt) refl i;
              hasSms = bit-back 41 r.common.hasSms (lit< tt) refl i;
              confidential = bit-back 42 r.common.confidential (lit< tt) refl i;
              private = bit-back 43 r.common.private (lit< tt) refl i;
            };
      }

-- ## The same octets are the same place, entry, receiver

slot_same : (l l' : List ℕ) (i : ℕ) → get_or l' (kind_place i) 0 ≡ get_or l (kind_place i) 0
    → ((j : ℕ) → since_place i ≤ j → j < since_place i + 4 → get_or l' j 0 ≡ get_or l j 0)
    → ((j : ℕ) → record_place i ≤ j → j < record_place i + record_size → get_or l' j 0 ≡ get_or l j 0)
    → slot_no l' i ≡ slot_no l i
unfolding slot_no
slot_same l l' i k e f =
    let s : le_at 4 l' (since_place i) ≡ le_at 4 l (since_place i) =
    le_ext 4 l' l (since_place i) (since_place i) (λ m x. e (since_place i + m) (omega arith) (omega arith))
    in
    let r : record_at l' (record_place i) ≡ record_at l (record_place i) = record_same l l' (record_place i) (λ j a b. f j a (omega arith)) in
    simp (k, s, r)

told_like : (l l' : List ℕ) (j : ℕ) → ((k : ℕ) → told_place j ≤ k → k < told_place j + told_length → get_or l' k 0 ≡ get_or l k 0) → told_no l' j ≡ told_no l j
unfolding told_no
told_like l l' j e =
    let s : le_at 8 l' (told_place j) ≡ le_at 8 l (told_place j) =
    le_ext 8 l' l (told_place j) (told_place j) (λ m x. e (told_place j + m) (omega arith) (omega arith))
    in
    let o : (m : ℕ) → m < told_length → get_or l' (told_place j + m) 0 ≡ get_or l (told_place j + m) 0 = λ m x. e (told_place j + m) (omega arith) (omega arith) in
    let r : record_at l' (told_place j + 16) ≡ record_at l (told_place j + 16) =
    record_same l l' (told_place j + 16) (λ k a b. e k (omega arith) (omega arith))
    in
    simp (s, o 8 (lit< tt), o 9 (lit< tt), o 10 (lit< tt), r)

-- the keys, and their sets of group keys: a number for each key, from a place on
pub numbers-same : (from : ℕ) (l l' : List ℕ) → ((j : ℕ) → from ≤ j → j < from + 4 * key_count → get_or l' j 0 ≡ get_or l j 0)
    → tabulate (λ i. le_at 4 l' (from + 4 * i)) 0 key_count ≡ tabulate (λ i. le_at 4 l (from + 4 * i)) 0 key_count
numbers-same from l l' e =
    table_ext (λ i. le_at 4 l' (from + 4 * i)) (λ i. le_at 4 l (from + 4 * i)) 0 key_count
    (λ i a b. le_ext 4 l' l (from + 4 * i) (from + 4 * i) (λ m x. e (from + 4 * i + m) (omega arith) (omega arith)))

pub cell_same : (l l' : List ℕ) → ((j : ℕ) → cell_from ≤ j → j < count_from → get_or l' j 0 ≡ get_or l j 0) → cell_at l' ≡ cell_at l
cell_same l l' e = λ i.
    record { nln = e cell_from (omega arith) (omega arith) i; count = e (cell_from + 1) (omega arith) (omega arith) i; bit = e (cell_from + 2) (omega arith) (omega arith) i }

pub same-receiver : (a b : Receiver) → a.slots ≡ b.slots → a.keys ≡ b.keys → a.sets ≡ b.sets → a.keycount ≡ b.keycount → a.tick ≡ b.tick → a.t3206 ≡ b.t3206
    → a.t3208 ≡ b.t3208 → a.t3210 ≡ b.t3210 → a.cell ≡ b.cell → a ≡ b
same-receiver a b p q s n r t u v w = λ i. record { slots = p i; keys = q i; sets = s i; keycount = n i; tick = r i; t3206 = t i; t3208 = u i; t3210 = v i; cell = w i }

-- the same slots and keys, and the same octets before the keys
like_receiver : (l l' : List ℕ) (ss : List Slot) → tabulate (slot_no l') 0 places ≡ ss → ((j : ℕ) → j < kinds_from → get_or l' j 0 ≡ get_or l j 0)
    → decode_of l' ≡ with_slots (decode_of l) ss
unfolding decode_of
like_receiver l l' ss p e =
    let b : (n : ℕ) → n + 4 ≤ cell_from → le_at 4 l' n ≡ le_at 4 l n = λ n h. le_ext 4 l' l n n (λ m x. e (n + m) (omega arith)) in
    same-receiver (decode_of l') (with_slots (decode_of l) ss) p (numbers-same keys_from l l' (λ j x y. e j (omega arith))) (numbers-same sets_from l l' (λ j x y. e j y))
    (e count_from (omega arith)) (b tick_from (omega arith)) (b timers_from (omega arith)) (b (timers_from + 4) (omega arith)) (b (timers_from + 8) (omega arith))
    (cell_same l l' (λ j x y. e j (omega arith)))

-- all octets but those of place i
Elsewhere : ℕ → List ℕ → List ℕ → Type 0
Elsewhere i l l' =
    (j : ℕ) → (j ≡ kind_place i → ⊥) → (since_place i ≤ j → since_place i + 4 ≤ j) → (record_place i ≤ j → record_place i + record_size ≤ j) → get_or l' j 0 ≡ get_or l j 0

-- another place
slot-elsewhere : (l l' : List ℕ) (i k : ℕ) → i < places → k < places → (k ≡ i → ⊥) → Elsewhere i l l' → slot_no l' k ≡ slot_no l k
unfolding Elsewhere
slot-elsewhere l l' i k h h' z e =
    slot_same l l' k (e (kind_place k) (λ q. z (omega arith)) (λ q. omega arith) (λ q. omega arith))
    (λ j a b. e j (λ q. omega arith) (λ q. omega arith) (λ q. omega arith))
    (λ j a b. e j (λ q. omega arith) (λ q. omega arith) (λ q. omega arith))

-- a change at place i only
decode_place : (l l' : List ℕ) (i : ℕ) → i < places → Elsewhere i l l'
    → decode_of l' ≡ with_slots (decode_of l) (set (decode_of l).slots i (slot_no l' i))
unfolding decode_of Elsewhere
decode_place l l' i lt e =
    like_receiver l l' (set (decode_of l).slots i (slot_no l' i))
    (table-set (slot_no l') (slot_no l) 0 places i lt
    (λ j x y z. slot-elsewhere l l' i j lt (omega arith) (λ w. z (w ∙ sym (zero-add i))) e)
    ∙ ap (λ (k : ℕ). set (decode_of l).slots i (slot_no l' k)) (zero-add i))
    (λ j h. e j (λ q. omega arith) (λ q. omega arith) (λ q. omega arith))

slots_same : (l l' : List ℕ) → ((j : ℕ) → kinds_from ≤ j → j < answer_from → get_or l' j 0 ≡ get_or l j 0) → tabulate (slot_no l') 0 places ≡ tabulate (slot_no l) 0 places
slots_same l l' e =
    table_ext (slot_no l') (slot_no l) 0 places
    (λ i a b. slot_same l l' i (e (kind_place i) (omega arith) (omega arith)) (λ j x y. e j (omega arith) (omega arith)) (λ j x y. e j (omega arith) (omega arith)))

-- the same octets before the answer
decode_same : (l l' : List ℕ) → ((j : ℕ) → j < answer_from → get_or l' j 0 ≡ get_or l j 0) → decode_of l' ≡ decode_of l
unfolding decode_of
decode_same l l' e = like_receiver l l' (decode_of l).slots (slots_same l l' (λ j x y. e j y)) (λ j h. e j (omega arith))

-- ## Reading parts

pub slot_of : (l : List ℕ) (i : ℕ) → i < places → get_or (decode_of l).slots i empty_slot ≡ slot_no l i
unfolding decode_of
slot_of l i h = get_d_table (slot_no l) 0 places i empty_slot h ∙ ap (slot_no l) (zero-add i)

pub key-of : (l : List ℕ) (i : ℕ) → i < key_count → get_or (decode_of l).keys i 0 ≡ key_no l i
unfolding decode_of
key-of l i h = get_d_table (key_no l) 0 key_count i 0 h ∙ ap (key_no l) (zero-add i)

pub slots_length : (l : List ℕ) → length (decode_of l).slots ≡ places
unfolding decode_of
slots_length l = length-table (slot_no l) 0 places

pub set-of : (l : List ℕ) (i : ℕ) → i < key_count → get_or (decode_of l).sets i 0 ≡ set_no l i
unfolding decode_of
set-of l i h = get_d_table (set_no l) 0 key_count i 0 h ∙ ap (set_no l) (zero-add i)

pub keys_length : (l : List ℕ) → length (decode_of l).keys ≡ key_count
unfolding decode_of
keys_length l = length-table (key_no l) 0 key_count

pub keycount_of : (l : List ℕ) → (decode_of l).keycount ≡ get_or l count_from 0
unfolding decode_of
keycount_of l = refl

pub half_of : (l : List ℕ) (i : ℕ) → (slot_no l i).half ≡ get_or l (kind_place i) 0
unfolding slot_no
half_of l i = by-test (eqb (get_or l (kind_place i) 0) 0) (λ p. simp p (sym (eqb-true _ _ p))) (λ p. simp p)

-- a place whose kind is 0, and one whose kind is not
pub slot-empty : (l : List ℕ) (i : ℕ) → get_or l (kind_place i) 0 ≡ 0 → slot_no l i ≡ empty_slot
unfolding slot_no
slot-empty l i e = simp (eq-eqb _ _ e)

pub slot_held : (l : List ℕ) (i : ℕ) → (get_or l (kind_place i) 0 ≡ 0 → ⊥)
    → slot_no l i ≡ record { half = get_or l (kind_place i) 0; since = le_at 4 l (since_place i); «record» = record_at l (record_place i) }
unfolding slot_no
slot_held l i z = simp (ne_eqb _ _ z)

-- what a place holds, put back
pub keep_same : (l : List ℕ) (i : ℕ) → i < places → with_slots (decode_of l) (set (decode_of l).slots i (slot_no l i)) ≡ decode_of l
keep_same l i h =
    ap (with_slots (decode_of l)) (ap (set (decode_of l).slots i) (sym (slot_of l i h)) ∙ set-get_or (decode_of l).slots i empty_slot)

-- ## A half is put at a place

pub length_put : (l : List ℕ) (i : ℕ) (s : Slot) → length (put_slot l i s) ≡ length l
unfolding put_slot
length_put l i s =
    length-stored (stored (set l (kind_place i) s.half) (since_place i) (low_octets 4 s.since)) (record_place i) (record_octets s.«record»)
    ∙ length-stored (set l (kind_place i) s.half) (since_place i) (low_octets 4 s.since)
    ∙ length-set l (kind_place i) s.half

-- octets outside a run
stored-outside : (l : List ℕ) (at : ℕ) (vs : List ℕ) (n j : ℕ) → length vs ≡ n → (at ≤ j → at + n ≤ j) → get_or (stored l at vs) j 0 ≡ get_or l j 0
stored-outside l at vs n j m q =
    by-test (ltb j at) (λ t. stored-before l at vs j (ltb-true _ _ t)) (λ t. stored-after l at vs j (rw m (q (ltb-false _ _ t))))

pub put_elsewhere : (l : List ℕ) (i : ℕ) (s : Slot) (j : ℕ) → i < places → (j ≡ kind_place i → ⊥) → (since_place i ≤ j → since_place i + 4 ≤ j)
    → (record_place i ≤ j → record_place i + record_size ≤ j) → get_or (put_slot l i s) j 0 ≡ get_or l j 0
unfolding put_slot
put_elsewhere l i s j h p q r =
    stored-outside (stored (set l (kind_place i) s.half) (since_place i) (low_octets 4 s.since)) (record_place i) (record_octets s.«record») record_size j
    (length_record s.«record») (λ x. omega (arith, r x))
    ∙ stored-outside (set l (kind_place i) s.half) (since_place i) (low_octets 4 s.since) 4 j (length-octets 4 s.since) (λ x. omega (arith, q x))
    ∙ get_or-set_other l (kind_place i) j s.half 0 p

put_else : (l : List ℕ) (i : ℕ) (s : Slot) → i < places → Elsewhere i l (put_slot l i s)
unfolding Elsewhere
put_else l i s h j p q r = put_elsewhere l i s j h p q r

module _ (l : List ℕ) (i : ℕ) (s : Slot) (n : length l ≡ state_length) (h : i < places) where
  abbrev kinded : List ℕ
  kinded = set l (kind_place i) s.half

  abbrev dated : List ℕ
  dated = stored kinded (since_place i) (low_octets 4 s.since)

  put_kind : get_or (put_slot l i s) (kind_place i) 0 ≡ s.half
  unfolding put_slot
  put_kind =
      stored-before dated (record_place i) (record_octets s.«record») (kind_place i) (omega arith)
      ∙ stored-before kinded (since_place i) (low_octets 4 s.since) (kind_place i) (omega arith)
      ∙ get_or-set_same l (kind_place i) s.half 0 (omega arith)

  put_since : s.since < 4294967296 → le_at 4 (put_slot l i s) (since_place i) ≡ s.since
  unfolding put_slot
  put_since lt =
      le_before 4 dated (record_place i) (record_octets s.«record») (since_place i) (omega arith)
      ∙ le_alone 4 s.since kinded (since_place i) (rw (length-set l (kind_place i) s.half) (omega arith)) lt

  put_record : Wide s.«record» → record_at (put_slot l i s) (record_place i) ≡ s.«record»
  unfolding put_slot
  put_record w =
      let m : length dated ≡ state_length = length-stored kinded (since_place i) (low_octets 4 s.since) ∙ length-set l (kind_place i) s.half ∙ n in
      record_back dated (record_place i) s.«record» (omega arith) w

slot_put : (l : List ℕ) (i : ℕ) (s : Slot) → length l ≡ state_length → i < places → s.half < 256 → s.since < 4294967296 → Wide s.«record»
    → (s.half ≡ 0 → s ≡ empty_slot) → slot_no (put_slot l i s) i ≡ s
slot_put l i s n h b t w z =
    let k = put_kind l i s n h in
    by-test (eqb s.half 0) (λ p. slot-empty (put_slot l i s) i (k ∙ eqb-true _ _ p) ∙ sym (z (eqb-true _ _ p)))
    (λ p. slot_held (put_slot l i s) i (λ q. eqb-false _ _ p (sym k ∙ q))
    ∙ (λ x. record { half = k x; since = put_since l i s n h t x; «record» = put_record l i s n h w x }))

pub slot_put_other : (l : List ℕ) (i k : ℕ) (s : Slot) → i < places → k < places → (k ≡ i → ⊥) → slot_no (put_slot l i s) k ≡ slot_no l k
slot_put_other l i k s h h' z = slot-elsewhere l (put_slot l i s) i k h h' z (put_else l i s h)

pub decode_put : (l : List ℕ) (i : ℕ) (s : Slot) → length l ≡ state_length → i < places → s.half < 256 → s.since < 4294967296 → Wide s.«record»
    → (s.half ≡ 0 → s ≡ empty_slot) → decode_of (put_slot l i s) ≡ with_slots (decode_of l) (set (decode_of l).slots i s)
decode_put l i s n h b t w z =
    decode_place l (put_slot l i s) i h (put_else l i s h)
    ∙ ap (λ (x : Slot). with_slots (decode_of l) (set (decode_of l).slots i x)) (slot_put l i s n h b t w z)

pub decode_clear : (l : List ℕ) (i : ℕ) → length l ≡ state_length → i < places
    → decode_of (put_slot l i empty_slot) ≡ with_slots (decode_of l) (set (decode_of l).slots i empty_slot)
decode_clear l i n h = decode_put l i empty_slot n h (lit< tt) (lit< tt) wide-none (λ e. refl)

pub told_put : (l : List ℕ) (i : ℕ) (s : Slot) (j : ℕ) → i < places → told_no (put_slot l i s) j ≡ told_no l j
told_put l i s j h =
    told_like l (put_slot l i s) j (λ k a b. put_elsewhere l i s k h (λ q. omega arith) (λ q. omega arith) (λ q. omega arith))

-- ## An entry's answer is written

pub told_with : (l : List ℕ) (j : ℕ) (t : Told) → carries t.number ≡ true → put_told l j t ≡ put_carried l j t
unfolding put_told
told_with l j t p = simp p

pub told-without : (l : List ℕ) (j : ℕ) (t : Told) → carries t.number ≡ false → put_told l j t ≡ put_number l j t
unfolding put_told
told-without l j t p = simp p

-- what holds of both, and of an entry as it is
by-told : (P : List ℕ → Type 0) (l : List ℕ) (j : ℕ) (t : Told) → (carries t.number ≡ true → P (put_carried l j t))
    → (carries t.number ≡ false → P (put_number l j t)) → P (put_told l j t)
by-told P l j t a b = by-test (carries t.number) (λ p. rw (told_with l j t p) (a p)) (λ p. rw (told-without l j t p) (b p))

module _ (l : List ℕ) (j : ℕ) (t : Told) where
  abbrev keyed : List ℕ
  keyed = stored l (told_place j) (low_octets 8 t.key)

  abbrev three : List ℕ
  three = t.number ∷ t.follow ∷ t.kept ∷ []

  length-keyed : length keyed ≡ length l
  length-keyed = length-stored l (told_place j) (low_octets 8 t.key)

  length-number : length (put_number l j t) ≡ length l
  unfolding put_number
  length-number = length-stored keyed (told_place j + 8) three ∙ length-keyed

  number-elsewhere : (k : ℕ) → (told_place j ≤ k → told_place j + told_length ≤ k) → get_or (put_number l j t) k 0 ≡ get_or l k 0
  unfolding put_number
  number-elsewhere k q =
      stored-outside keyed (told_place j + 8) three 3 k refl (λ x. omega (arith, q (omega arith)))
      ∙ stored-outside l (told_place j) (low_octets 8 t.key) 8 k (length-octets 8 t.key) (λ x. omega (arith, q x))

  length-carried : length (put_carried l j t) ≡ length l
  unfolding put_carried
  length-carried = length-stored (put_number l j t) (told_place j + 16) (record_octets t.«record») ∙ length-number

  carried-elsewhere : (k : ℕ) → (told_place j ≤ k → told_place j + told_length ≤ k) → get_or (put_carried l j t) k 0 ≡ get_or l k 0
  unfolding put_carried
  carried-elsewhere k q =
      stored-outside (put_number l j t) (told_place j + 16) (record_octets t.«record») record_size k (length_record t.«record») (λ x. omega (arith, q (omega arith)))
      ∙ number-elsewhere k q

  module _ (n : length l ≡ state_length) (h : j < most_entries) where
    number-key : t.key < 18446744073709551616 → le_at 8 (put_number l j t) (told_place j) ≡ t.key
    unfolding put_number
    number-key lt =
        le_before 8 keyed (told_place j + 8) three (told_place j) (omega arith)
        ∙ le_alone 8 t.key l (told_place j) (omega arith) lt

    -- the number told, and the two beside it
    number-three : (k at v : ℕ) → at ≡ told_place j + 8 + k → k < 3 → get_or three k 0 ≡ v → get_or (put_number l j t) at 0 ≡ v
    unfolding put_number
    number-three k at v e lt q =
        ap (λ (m : ℕ). get_or (stored keyed (told_place j + 8) three) m 0) e
        ∙ stored_in keyed (told_place j + 8) three k (omega (arith, length-keyed)) lt
        ∙ q

    told-bare : carries t.number ≡ false → t.key < 18446744073709551616
        → told_no (put_number l j t) j ≡ record { key = t.key; number = t.number; «record» = no_record; follow = t.follow; kept = t.kept }
    unfolding told_no
    told-bare p lt =
        let a = number-three 0 (told_place j + 8) t.number (omega arith) (lit< tt) refl in
        let b = number-three 1 (told_place j + 9) t.follow (omega arith) (lit< tt) refl in
        let c = number-three 2 (told_place j + 10) t.kept (omega arith) (lit< tt) refl in
        simp (number-key lt, a, b, c, p)

    carried-three : (k at v : ℕ) → at ≡ told_place j + 8 + k → k < 3 → get_or three k 0 ≡ v → get_or (put_carried l j t) at 0 ≡ v
    unfolding put_carried
    carried-three k at v e lt q =
        stored-before (put_number l j t) (told_place j + 16) (record_octets t.«record») at (omega arith) ∙ number-three k at v e lt q

    carried_record : Wide t.«record» → record_at (put_carried l j t) (told_place j + 16) ≡ t.«record»
    unfolding put_carried
    carried_record w = record_back (put_number l j t) (told_place j + 16) t.«record» (rw length-number (omega arith)) w

    carried-key : t.key < 18446744073709551616 → le_at 8 (put_carried l j t) (told_place j) ≡ t.key
    unfolding put_carried
    carried-key lt = le_before 8 (put_number l j t) (told_place j + 16) (record_octets t.«record») (told_place j) (omega arith) ∙ number-key lt

    told-carried : carries t.number ≡ true → t.key < 18446744073709551616 → Wide t.«record» → told_no (put_carried l j t) j ≡ t
    unfolding told_no
    told-carried p lt w =
        let a = carried-three 0 (told_place j + 8) t.number (omega arith) (lit< tt) refl in
        let b = carried-three 1 (told_place j + 9) t.follow (omega arith) (lit< tt) refl in
        let c = carried-three 2 (told_place j + 10) t.kept (omega arith) (lit< tt) refl in
        simp (carried-key lt, a, b, c, carried_record w, p)

pub length-told : (l : List ℕ) (j : ℕ) (t : Told) → length (put_told l j t) ≡ length l
length-told l j t = by-told (λ (x : List ℕ). length x ≡ length l) l j t (λ p. length-carried l j t) (λ p. length-number l j t)

pub told-elsewhere : (l : List ℕ) (j : ℕ) (t : Told) (k : ℕ) → (told_place j ≤ k → told_place j + told_length ≤ k) → get_or (put_told l j t) k 0 ≡ get_or l k 0
told-elsewhere l j t k q = by-told (λ (x : List ℕ). get_or x k 0 ≡ get_or l k 0) l j t (λ p. carried-elsewhere l j t k q) (λ p. number-elsewhere l j t k q)

pub decode_told : (l : List ℕ) (j : ℕ) (t : Told) → j < most_entries → decode_of (put_told l j t) ≡ decode_of l
decode_told l j t h = decode_same l (put_told l j t) (λ k a. told-elsewhere l j t k (λ q. omega arith))

pub told-other : (l : List ℕ) (j k : ℕ) (t : Told) → j < most_entries → (k ≡ j → ⊥) → told_no (put_told l j t) k ≡ told_no l k
told-other l j k t h z = told_like l (put_told l j t) k (λ m a b. told-elsewhere l j t m (λ q. omega arith))

pub told_same : (l : List ℕ) (j : ℕ) (t : Told) → length l ≡ state_length → j < most_entries → t.key < 18446744073709551616 → Wide t.«record»
    → (carries t.number ≡ false → t.«record» ≡ no_record) → told_no (put_told l j t) j ≡ t
told_same l j t n h lt w z =
    by-told (λ (x : List ℕ). told_no x j ≡ t) l j t (λ p. told-carried l j t n h p lt w)
    (λ p. told-bare l j t n h p lt ∙ (λ i. record { key = t.key; number = t.number; «record» = sym (z p) i; follow = t.follow; kept = t.kept }))

-- ## The tick, what is known of the cell, and the answer's numbers

-- the cell's octets stand before the number of keys, and read back
pub cell-fits : (c : Cell) → cell_from + length (cell_octets c) ≤ count_from
cell-fits c = omega arith

pub cell-back : (l : List ℕ) (c : Cell) → keys_from ≤ length l → cell_at (stored l cell_from (cell_octets c)) ≡ c
cell-back l c h =
    let o : (k : ℕ) → k < 3 → get_or (stored l cell_from (cell_octets c)) (cell_from + k) 0 ≡ get_or (cell_octets c) k 0 = λ k x. stored_in l cell_from (cell_octets c) k (omega arith) x in
    λ i. record { nln = o 0 (lit< tt) i; count = o 1 (lit< tt) i; bit = o 2 (lit< tt) i }

module _ (l : List ℕ) (tick : ℕ) (cell : Cell) (x d n : ℕ) where
  abbrev ticked : List ℕ
  ticked = stored l tick_from (low_octets 4 tick)

  abbrev celled : List ℕ
  celled = stored ticked cell_from (cell_octets cell)

  abbrev counts : List ℕ
  counts = low_octets 4 x ++ (low_octets 4 d ++ low_octets 4 n)

  length-counts : length counts ≡ 12
  length-counts = simp (length-append, length-octets)

  length-celled : length celled ≡ length l
  length-celled = length-stored ticked cell_from (cell_octets cell) ∙ length-stored l tick_from (low_octets 4 tick)

  length-put_counts : length (put_counts l tick cell x d n) ≡ length l
  unfolding put_counts
  length-put_counts = length-stored celled answer_from counts ∙ length-celled

  counts-elsewhere : (j : ℕ) → timers_from ≤ j → (cell_from ≤ j → count_from ≤ j) → (answer_from ≤ j → answer_from + 12 ≤ j)
      → get_or (put_counts l tick cell x d n) j 0 ≡ get_or l j 0
  unfolding put_counts
  counts-elsewhere j a p q =
      stored-outside celled answer_from counts 12 j length-counts q
      ∙ stored-outside ticked cell_from (cell_octets cell) (length (cell_octets cell)) j refl (λ y. omega (arith, p y, cell-fits cell))
      ∙ stored-after l tick_from (low_octets 4 tick) j (rw (length-octets 4 tick) a)

  told-counts : (j : ℕ) → told_no (put_counts l tick cell x d n) j ≡ told_no l j
  told-counts j = told_like l (put_counts l tick cell x d n) j (λ k a b. counts-elsewhere k (omega arith) (λ q. omega arith) (λ q. omega arith))

  counts-tick : length l ≡ state_length → tick < 4294967296 → le_at 4 (put_counts l tick cell x d n) tick_from ≡ tick
  unfolding put_counts
  counts-tick m lt =
      le_before 4 celled answer_from counts tick_from (omega arith)
      ∙ le_before 4 ticked cell_from (cell_octets cell) tick_from (omega arith)
      ∙ le_alone 4 tick l tick_from (omega arith) lt

  counts-cell : length l ≡ state_length → cell_at (put_counts l tick cell x d n) ≡ cell
  unfolding put_counts
  counts-cell m =
      cell_same celled (stored celled answer_from counts) (λ j a b. stored-before celled answer_from counts j (omega arith))
      ∙ cell-back ticked cell (rw (length-stored l tick_from (low_octets 4 tick)) (omega arith))

  decode_counts : length l ≡ state_length → tick < 4294967296 → decode_of (put_counts l tick cell x d n) ≡ remade (decode_of l) (decode_of l).slots tick cell
  unfolding decode_of
  decode_counts m lt =
      let k = put_counts l tick cell x d n in
      let timer : (at : ℕ) → timers_from ≤ at → at + 4 ≤ cell_from → le_at 4 k at ≡ le_at 4 l at =
      λ at a b. le_ext 4 k l at at (λ i c. counts-elsewhere (at + i) (omega arith) (λ q. omega arith) (λ q. omega arith))
      in
      same-receiver (decode_of k) (remade (decode_of l) (decode_of l).slots tick cell)
      (slots_same l k (λ j a b. counts-elsewhere j (omega arith) (λ q. omega arith) (λ q. omega arith)))
      (numbers-same keys_from l k (λ j a b. counts-elsewhere j (omega arith) (λ q. omega arith) (λ q. omega arith)))
      (numbers-same sets_from l k (λ j a b. counts-elsewhere j (omega arith) (λ q. omega arith) (λ q. omega arith)))
      (counts-elsewhere count_from (omega arith) (λ q. omega arith) (λ q. omega arith))
      (counts-tick m lt) (timer timers_from (omega arith) (omega arith)) (timer (timers_from + 4) (omega arith) (omega arith)) (timer (timers_from + 8) (omega arith) (omega arith))
      (counts-cell m)

  counts-expired : length l ≡ state_length → x < 4294967296 → le_at 4 (put_counts l tick cell x d n) answer_from ≡ x
  unfolding put_counts
  counts-expired m lt =
      field counts celled answer_from 4 x [] (low_octets 4 d ++ low_octets 4 n) 0 8 refl refl (simp (length-append, length-octets)) (omega (arith, length-celled)) lt

  counts-dropped : length l ≡ state_length → d < 4294967296 → le_at 4 (put_counts l tick cell x d n) (answer_from + 4) ≡ d
  unfolding put_counts
  counts-dropped m lt =
      field counts celled answer_from 4 d (low_octets 4 x) (low_octets 4 n) 4 4 (simp append_assoc) (length-octets 4 x) (length-octets 4 n)
      (omega (arith, length-celled)) lt

  counts-count : length l ≡ state_length → n < 4294967296 → le_at 4 (put_counts l tick cell x d n) (answer_from + 8) ≡ n
  unfolding put_counts
  counts-count m lt =
      field counts celled answer_from 4 n (low_octets 4 x ++ low_octets 4 d) [] 8 0 (simp (append_assoc, append-nil)) (simp (length-append, length-octets)) refl
      (omega (arith, length-celled)) lt

-- ## Who is paged

module _ (l : List ℕ) (p : Paged) where
  abbrev paged : List ℕ
  paged = stored l paged_from (paged_octets p)

  length-paged : length (paged_octets p) ≡ 16
  unfolding paged_octets low_octets
  length-paged = refl

  page_octet : (k v : ℕ) → k < 16 → length l ≡ state_length → get_or (paged_octets p) k 0 ≡ v → get_or paged (paged_from + k) 0 ≡ v
  page_octet k v h m e = stored_in l paged_from (paged_octets p) k (rw (length-paged, m) (omega arith)) (rw length-paged h) ∙ e

  page_flag : (k : ℕ) (b : Bool) → k < 16 → length l ≡ state_length → get_or (paged_octets p) k 0 ≡ as_bit b → flag_at paged (paged_from + k) ≡ b
  page_flag k b h m e = ap (λ (x : ℕ). not (eqb x 0)) (page_octet k (as_bit b) h m e) ∙ flag-back b

  abbrev eight : List ℕ
  eight =
      as_bit p.there ∷ p.page.identityLength ∷ p.page.identityFirst ∷ p.page.channelFirst ∷ as_bit p.page.hasPriority ∷ p.page.priority
      ∷ as_bit p.hasCause ∷ as_bit p.cause ∷ []

  page_rest : length l ≡ state_length → p.page.identityRest < 18446744073709551616 → le_at 8 paged (paged_from + 8) ≡ p.page.identityRest
  unfolding paged_octets
  page_rest m lt = field (paged_octets p) l paged_from 8 p.page.identityRest eight [] 8 0 (simp (append_assoc, append-nil)) refl refl (omega arith) lt

  -- it reads back
  paged-back : length l ≡ state_length → p.page.identityRest < 18446744073709551616 → paged_at paged ≡ p
  unfolding paged_at paged_octets
  paged-back m lt = λ i.
      record {
        there = page_flag 0 p.there (lit< tt) m refl i;
        page =
            record {
              identityLength = page_octet 1 p.page.identityLength (lit< tt) m refl i;
              identityFirst = page_octet 2 p.page.identityFirst (lit< tt) m refl i;
              identityRest = page_rest m lt i;
              channelFirst = page_octet 3 p.page.channelFirst (lit< tt) m refl i;
              hasPriority = page_flag 4 p.page.hasPriority (lit< tt) m refl i;
              priority = page_octet 5 p.page.priority (lit< tt) m refl i;
            };
        hasCause = page_flag 6 p.hasCause (lit< tt) m refl i;
        cause = page_flag 7 p.cause (lit< tt) m refl i;
      }

-- octets that are all 0 page nobody
pub paged-none : (l : List ℕ) → ((k : ℕ) → k < 16 → get_or l (paged_from + k) 0 ≡ 0) → paged_at l ≡ no_paged
unfolding paged_at
paged-none l e =
    let f : (k : ℕ) → k < 16 → flag_at l (paged_from + k) ≡ false = λ k h. ap (λ (x : ℕ). not (eqb x 0)) (e k h) in
    let r : le_at 8 l (paged_from + 8) ≡ 0 =
    le_zero 8 l (paged_from + 8) (λ n h. let q : paged_from + 8 + n ≡ paged_from + (8 + n) = omega arith in ap (λ (k : ℕ). get_or l k 0) q ∙ e (8 + n) (omega arith))
    in
    λ i.
    record {
      there = f 0 (lit< tt) i;
      page =
          record {
            identityLength = e 1 (lit< tt) i;
            identityFirst = e 2 (lit< tt) i;
            identityRest = r i;
            channelFirst = e 3 (lit< tt) i;
            hasPriority = f 4 (lit< tt) i;
            priority = e 5 (lit< tt) i;
          };
      hasCause = f 6 (lit< tt) i;
      cause = f 7 (lit< tt) i;
    }

-- ## The head of the answer: those numbers, and who is paged

module _ (l : List ℕ) (tick : ℕ) (cell : Cell) (x d n : ℕ) (p : Paged) where
  abbrev counted : List ℕ
  counted = put_counts l tick cell x d n

  pub length-head : length (put_head l tick cell x d n p) ≡ length l
  unfolding put_head
  length-head = length-stored counted paged_from (paged_octets p) ∙ length-put_counts l tick cell x d n

  -- before who is paged, and behind it
  head-before : (j : ℕ) → j < paged_from → get_or (put_head l tick cell x d n p) j 0 ≡ get_or counted j 0
  unfolding put_head
  head-before j h = stored-before counted paged_from (paged_octets p) j h

  head-behind : (j : ℕ) → tolds_from ≤ j → get_or (put_head l tick cell x d n p) j 0 ≡ get_or counted j 0
  unfolding put_head
  head-behind j h = stored-after counted paged_from (paged_octets p) j (rw (length-paged l p) h)

  pub head-elsewhere : (j : ℕ) → timers_from ≤ j → (cell_from ≤ j → count_from ≤ j) → j < answer_from → get_or (put_head l tick cell x d n p) j 0 ≡ get_or l j 0
  head-elsewhere j a q h = head-before j (omega arith) ∙ counts-elsewhere l tick cell x d n j a q (λ y. omega arith)

  pub decode_head : length l ≡ state_length → tick < 4294967296 → decode_of (put_head l tick cell x d n p) ≡ remade (decode_of l) (decode_of l).slots tick cell
  decode_head m lt = decode_same counted (put_head l tick cell x d n p) (λ j h. head-before j (omega arith)) ∙ decode_counts l tick cell x d n m lt

  head-told : (j : ℕ) → told_no (put_head l tick cell x d n p) j ≡ told_no l j
  head-told j = told_like counted (put_head l tick cell x d n p) j (λ k a b. head-behind k (omega arith)) ∙ told-counts l tick cell x d n j

  head-number : (at : ℕ) → at + 4 ≤ paged_from → le_at 4 (put_head l tick cell x d n p) at ≡ le_at 4 counted at
  unfolding put_head
  head-number at h = le_before 4 counted paged_from (paged_octets p) at h

  head-paged : length l ≡ state_length → p.page.identityRest < 18446744073709551616 → paged_at (put_head l tick cell x d n p) ≡ p
  unfolding put_head
  head-paged m lt = paged-back counted p (length-put_counts l tick cell x d n ∙ m) lt

  pub last-head : length l ≡ state_length → x < 4294967296 → d < 4294967296 → n < 4294967296 → p.page.identityRest < 18446744073709551616
      → last_of (put_head l tick cell x d n p)
      ≡ record { expired = x; dropped = d; count = n; entries = tabulate (λ j. pick (ltb j n) (told_no l j) no_told) 0 most_entries; paged = p }
  unfolding last_of
  last-head m a b c w =
      let h : List ℕ = put_head l tick cell x d n p in
      let k : le_at 4 h (answer_from + 8) ≡ n = head-number (answer_from + 8) (omega arith) ∙ counts-count l tick cell x d n m c in
      let s : (last_of h).entries ≡ tabulate (λ j. pick (ltb j n) (told_no l j) no_told) 0 most_entries =
      table_ext (λ j. pick (ltb j (le_at 4 h (answer_from + 8))) (told_no h j) no_told) (λ j. pick (ltb j n) (told_no l j) no_told) 0 most_entries
      (λ j y z. ap₂ (λ (u : ℕ) (v : Told). pick (ltb j u) v no_told) k (head-told j))
      in
      let e = head-number answer_from (omega arith) ∙ counts-expired l tick cell x d n m a in
      let o = head-number (answer_from + 4) (omega arith) ∙ counts-dropped l tick cell x d n m b in
      λ i. record { expired = e i; dropped = o i; count = k i; entries = s i; paged = head-paged m w i }

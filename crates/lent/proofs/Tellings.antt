-- What telling an entry leaves, and all entries of a message in order. Assumes nothing.
use mathlib.Core.Path.{◌≡◌, refl, ap, ap₂, sym, ◌∙◌}
use mathlib.Core.Bool.{Bool, true, false}
use mathlib.Core.List.{List, [], ◌∷◌, ◌++◌}
use Prim.Native.Nat.{ℕ, suc, ◌+◌, ◌≤◌, ◌<◌}
use native.Mathlib.Nat.{add-zero, zero-add, add-suc, suc-add}
use native.Mathlib.Omega.{arith}
use borrow.Author.Tests.{lt-ltb, le-ltb, ltb-true, ltb-false, eqb-true, eqb-false}
use lib.Dec.{eqb, ltb, lit<, lit≤}
use lib.ListN.{length, get_or, set, length-append, get_or-append}
use lib.Seq.{get_or_at}
use Rattle.bits.specs.Field.{both, pick}
use Rattle.csn1.specs.Told.{as_bit}
use Rattle.receiver.specs.declared.Record.{Record}
use Rattle.receiver.specs.declared.Slot.{Slot}
use Rattle.receiver.specs.declared.Receiver.{Receiver}
use Rattle.receiver.specs.declared.Told.{Told}
use Rattle.receiver.specs.declared.Met.{Met}
use Rattle.receiver.specs.Channels.{channels, key_count, places, place_on, leads}
use Rattle.receiver.specs.Model.{no_record, empty_slot, key_of, keys_of, index_of, is_clear, is_whole, is_first, is_second}
use Rattle.receiver.specs.Model.{is_bare, class_of, agree, joined_of, only, complete, storing, meet_half, meet_of, with_slots}
use Rattle.receiver.specs.declared.Cell.{Cell}
use Rattle.receiver.specs.Step.{no_told, most_entries, set_at, told_as, told_only, slots_after, told_of, all_after, all_told}
use Rattle.receiver.proofs.Cases.{by-test}
use Rattle.layout.specs.Layout.{state_length, kind_place, since_place, record_place, slot_no, decode_of, put_slot, carries, told_no, put_told, keys_in, sets_in}
use Rattle.lent.specs.Events.{after_meet, tell_octets, all_octets}
use Rattle.lent.specs.Inner.{Telling, AllTold}
use Rattle.layout.proofs.Numbers.{le_below}
use Rattle.layout.proofs.Wide.{Octs, Wide, wide-none, wide_at, wide-join}
use Rattle.layout.proofs.Decoding.{slot_of, slot-empty, slot_held, keep_same, length_put, decode_put, told_put, length-told, decode_told, told_same, told-other}

-- ## What an entry meets fits its octets

pub record Fits (s : Slot) : Type 0 where
  pub half : s.half < 256
  pub since : s.since < 4294967296
  pub wide : Wide s.«record»
  pub empty : s.half ≡ 0 → s ≡ empty_slot

fits-empty : Fits empty_slot
fits-empty = record { half = lit< tt; since = lit< tt; wide = wide-none; empty = λ e. refl }

pub fits-at : (l : List ℕ) (i : ℕ) → Octs l → Fits (slot_no l i)
fits-at l i o =
    by-test (eqb (get_or l (kind_place i) 0) 0) (λ p. rw (slot-empty l i (eqb-true _ _ p)) fits-empty)
    (λ p. rw (slot_held l i (eqb-false _ _ p))
    (record {
      half = o (kind_place i);
      since = le_below 4 l (since_place i) o;
      wide = wide_at l (record_place i) o;
      empty = λ z. absurd (eqb-false _ _ p z);
    }))

-- the place changes where a half is stored (4) or joined (3)
abbrev changes : ℕ → Bool
changes n = both (ltb 2 n) (ltb n 5)

-- what is met at a place that held s
pub record Meeting (s : Slot) (m : Met) : Type 0 where
  pub number : m.number < 256
  pub told : Wide m.told
  pub bare : carries m.number ≡ false → m.told ≡ no_record
  pub held : Fits m.held
  pub same : changes m.number ≡ false → m.held ≡ s

only-meets : (n : ℕ) (s : Slot) → n < 256 → Fits s → Meeting s (only n s)
only-meets n s h f = record { number = h; told = wide-none; bare = λ e. refl; held = f; same = λ e. refl }

module _ (now : ℕ) (lt : now < 4294967296) (s : Slot) (e : Record) (f : Fits s) (w : Wide e) where
  stores : (half : ℕ) → half < 256 → (half ≡ 0 → ⊥) → Meeting s (only 4 (storing half now e))
  stores half h z =
      record {
        number = lit< tt;
        told = wide-none;
        bare = λ q. refl;
        held = record { half = h; since = lt; wide = w; empty = λ q. absurd (z q) };
        same = λ q. cc;
      }

  joins : (j : Record) → Wide j → Meeting s (complete 3 j empty_slot)
  joins j v = record { number = lit< tt; told = v; bare = λ q. cc; held = fits-empty; same = λ q. cc }

  whole : (n : ℕ) → n < 256 → carries n ≡ true → Meeting s (complete n e s)
  whole n h c = record { number = h; told = w; bare = λ q. cc; held = f; same = λ q. refl }

  by-pick : (b : Bool) {m n : Met} → Meeting s m → Meeting s n → Meeting s (pick b m n)
  by-pick true p q = p
  by-pick false p q = q

  half_meets : (half : ℕ) (j : Record) (u : Met) → Wide j → Meeting s u → Meeting s (meet_half half s e j u)
  half_meets half j u v p =
      by-pick (eqb s.half 0) p
      (by-pick (eqb s.half half) (only-meets 5 s (lit< tt) f)
      (by-pick (agree s.«record» e) (joins j v) (only-meets 7 s (lit< tt) f)))

  class_low : (a b c d g : Bool) → pick a 1 (pick b 2 (pick c 3 (pick d 4 (pick g 6 7)))) < 256
  class_low true b c d g = lit< tt
  class_low false true c d g = lit< tt
  class_low false false true d g = lit< tt
  class_low false false false true g = lit< tt
  class_low false false false false true = lit< tt
  class_low false false false false false = lit< tt

  class_below : (ch : ℕ) → class_of ch e < 256
  unfolding class_of
  class_below ch = class_low (is_clear e) (is_whole ch e) (is_first ch e) (is_second ch e) (is_bare e)

  pub meets : (ch : ℕ) → Meeting s (meet_of ch now s e)
  unfolding meet_of
  meets ch =
      by-pick (eqb (class_of ch e) 1) (whole 1 (lit< tt) refl)
      (by-pick (eqb (class_of ch e) 2) (whole 2 (lit< tt) refl)
      (by-pick (eqb (class_of ch e) 3)
      (half_meets 1 (joined_of e s.«record») _ (wide-join e s.«record» w f.wide) (stores 1 (lit< tt) (λ q. omega arith)))
      (by-pick (eqb (class_of ch e) 4)
      (half_meets 2 (joined_of s.«record» e) _ (wide-join s.«record» e f.wide w)
      (by-pick (leads ch) (stores 2 (lit< tt) (λ q. omega arith)) (only-meets 8 s (lit< tt) f)))
      (only-meets (class_of ch e) s (class_below ch) f))))

-- ## The place, and the answer

after-changed : (l : List ℕ) (i : ℕ) (m : Met) → changes m.number ≡ true → after_meet l i m ≡ put_slot l i m.held
after-changed l i m p = rw p refl

after_same : (l : List ℕ) (i : ℕ) (m : Met) → changes m.number ≡ false → after_meet l i m ≡ l
after_same l i m p = rw p refl

length-after : (l : List ℕ) (i : ℕ) (m : Met) → length (after_meet l i m) ≡ length l
length-after l i m =
    by-test (changes m.number) (λ p. ap length (after-changed l i m p) ∙ length_put l i m.held) (λ p. ap length (after_same l i m p))

told-after : (l : List ℕ) (i : ℕ) (m : Met) (k : ℕ) → i < places → told_no (after_meet l i m) k ≡ told_no l k
told-after l i m k h =
    by-test (changes m.number) (λ p. ap (λ (x : List ℕ). told_no x k) (after-changed l i m p) ∙ told_put l i m.held k h)
    (λ p. ap (λ (x : List ℕ). told_no x k) (after_same l i m p))

decode_after : (l : List ℕ) (i : ℕ) (m : Met) → length l ≡ state_length → i < places → Meeting (slot_no l i) m
    → decode_of (after_meet l i m) ≡ with_slots (decode_of l) (set (decode_of l).slots i m.held)
decode_after l i m n h q =
    by-test (changes m.number)
    (λ p.
    ap decode_of (after-changed l i m p)
    ∙ decode_put l i m.held n h q.held.half q.held.since q.held.wide q.held.empty)
    (λ p.
    ap decode_of (after_same l i m p)
    ∙ sym (ap (λ (x : Slot). with_slots (decode_of l) (set (decode_of l).slots i x)) (q.same p) ∙ keep_same l i h))

bit-most : (b : Bool) → as_bit b ≤ 1
bit-most true = lit≤ tt
bit-most false = lit≤ tt

pub key_below : (e : Record) → Wide e → key_of e.call < 18446744073709551616
key_below e w = omega (arith, w.reference, bit-most e.call.vgcs)

-- ## One entry

abbrev miss : Record → Told
miss e = told_only (key_of e.call) 0

abbrev answer : ℕ → Cell → Record → Met → Told
answer set cell e m = told_as set cell (key_of e.call) m.number m.told

module _ (l : List ℕ) (cell : Cell) (ch now j : ℕ) (e : Record) where
  abbrev index : ℕ
  index = index_of (keys_in l) (key_of e.call)

  abbrev place : ℕ
  place = place_on index ch

  abbrev met : Met
  met = meet_of ch now (slot_no l place) e

  pub tell_miss : key_count ≤ index → tell_octets l cell ch now j e ≡ put_told l j (miss e)
  unfolding tell_octets
  tell_miss h = rw (le-ltb index key_count h) refl

  pub tell_ours : index < key_count → tell_octets l cell ch now j e ≡ put_told (after_meet l place met) j (answer (set_at (sets_in l) index) cell e met)
  unfolding tell_octets
  tell_ours h = rw (lt-ltb index key_count h) refl

  -- by whether the key is subscribed
  by_key : {P : Type 0} → (index < key_count → P) → (key_count ≤ index → P) → P
  by_key f g = by-test (ltb index key_count) (λ p. f (ltb-true _ _ p)) (λ p. g (ltb-false _ _ p))

  pub length_tell : length (tell_octets l cell ch now j e) ≡ length l
  length_tell =
      by_key (λ h. ap length (tell_ours h) ∙ length-told (after_meet l place met) j (answer (set_at (sets_in l) index) cell e met) ∙ length-after l place met)
      (λ h. ap length (tell_miss h) ∙ length-told l j (miss e))

  pub told_others : (k : ℕ) → j < most_entries → ch < channels → (k ≡ j → ⊥) → told_no (tell_octets l cell ch now j e) k ≡ told_no l k
  told_others k a b z =
      by_key
      (λ h.
      ap (λ (x : List ℕ). told_no x k) (tell_ours h)
      ∙ told-other (after_meet l place met) j k (answer (set_at (sets_in l) index) cell e met) a z
      ∙ told-after l place met k (omega arith))
      (λ h. ap (λ (x : List ℕ). told_no x k) (tell_miss h) ∙ told-other l j k (miss e) a z)

  module _ (n : length l ≡ state_length) (o : Octs l) (b : ch < channels) (a : j < most_entries) (t : now < 4294967296) (w : Wide e) where
    meeting : Meeting (slot_no l place) met
    meeting = meets now t (slot_no l place) e (fits-at l place o) w ch

    places-miss : key_count ≤ index → decode_of (tell_octets l cell ch now j e) ≡ with_slots (decode_of l) (slots_after (keys_in l) ch now (decode_of l).slots e)
    unfolding slots_after
    places-miss h = rw (le-ltb index key_count h) (ap decode_of (tell_miss h) ∙ decode_told l j (miss e) a)

    places-ours : index < key_count → decode_of (tell_octets l cell ch now j e) ≡ with_slots (decode_of l) (slots_after (keys_in l) ch now (decode_of l).slots e)
    unfolding slots_after
    places-ours h =
        rw (lt-ltb index key_count h, slot_of l place (omega arith))
        (ap decode_of (tell_ours h)
        ∙ decode_told (after_meet l place met) j (answer (set_at (sets_in l) index) cell e met) a
        ∙ decode_after l place met n (omega arith) meeting)

    told-miss : key_count ≤ index → told_no (tell_octets l cell ch now j e) j ≡ told_of (keys_in l) (sets_in l) cell ch now (decode_of l).slots e
    unfolding told_of
    told-miss h =
        rw (le-ltb index key_count h)
        (ap (λ (x : List ℕ). told_no x j) (tell_miss h) ∙ told_same l j (miss e) n a (key_below e w) wide-none (λ q. refl))

    told-ours : index < key_count → told_no (tell_octets l cell ch now j e) j ≡ told_of (keys_in l) (sets_in l) cell ch now (decode_of l).slots e
    unfolding told_of
    told-ours h =
        rw (lt-ltb index key_count h, slot_of l place (omega arith))
        (ap (λ (x : List ℕ). told_no x j) (tell_ours h)
        ∙ told_same (after_meet l place met) j (answer (set_at (sets_in l) index) cell e met) (length-after l place met ∙ n) a (key_below e w) meeting.told meeting.bare)

    pub telling : Telling l cell ch now j e (tell_octets l cell ch now j e)
    telling = record { octets = refl; places = by_key places-ours places-miss; told = by_key told-ours told-miss }

-- ## All entries

pub length-all : (l : List ℕ) (cell : Cell) (ch now j : ℕ) (es : List Record) → length (all_octets l cell ch now j es) ≡ length l
unfolding all_octets
length-all l cell ch now j [] = refl
length-all l cell ch now j (e ∷ es) = length-all (tell_octets l cell ch now j e) cell ch now (suc j) es ∙ length_tell l cell ch now j e

all_one : (l : List ℕ) (cell : Cell) (ch now j : ℕ) (e : Record) → all_octets l cell ch now j (e ∷ []) ≡ tell_octets l cell ch now j e
unfolding all_octets
all_one l cell ch now j e = refl

pub all_then : (l : List ℕ) (cell : Cell) (ch now j : ℕ) (es fs : List Record)
    → all_octets l cell ch now j (es ++ fs) ≡ all_octets (all_octets l cell ch now j es) cell ch now (j + length es) fs
unfolding all_octets
all_then l cell ch now j [] fs = ap (λ (k : ℕ). all_octets l cell ch now k fs) (sym (add-zero j))
all_then l cell ch now j (e ∷ es) fs =
    all_then (tell_octets l cell ch now j e) cell ch now (suc j) es fs
    ∙ ap (λ (k : ℕ). all_octets (all_octets (tell_octets l cell ch now j e) cell ch now (suc j) es) cell ch now k fs) (suc-add j (length es) ∙ sym (add-suc j (length es)))

module _ (keys sets : List ℕ) (cell : Cell) (ch now : ℕ) where
  after_snoc : (slots : List Slot) (es : List Record) (e : Record)
      → all_after keys ch now slots (es ++ (e ∷ [])) ≡ slots_after keys ch now (all_after keys ch now slots es) e
  unfolding all_after
  after_snoc slots [] e = refl
  after_snoc slots (x ∷ es) e = after_snoc (slots_after keys ch now slots x) es e

  snoc_told : (slots : List Slot) (es : List Record) (e : Record)
      → all_told keys sets cell ch now slots (es ++ (e ∷ [])) ≡ all_told keys sets cell ch now slots es ++ (told_of keys sets cell ch now (all_after keys ch now slots es) e ∷ [])
  unfolding all_told all_after
  snoc_told slots [] e = refl
  snoc_told slots (x ∷ es) e = ap (λ (l : List Told). told_of keys sets cell ch now slots x ∷ l) (snoc_told (slots_after keys ch now slots x) es e)

  pub length-all_told : (slots : List Slot) (es : List Record) → length (all_told keys sets cell ch now slots es) ≡ length es
  unfolding all_told
  length-all_told slots [] = refl
  length-all_told slots (x ∷ es) = ap suc (length-all_told (slots_after keys ch now slots x) es)

pub all_none : (l : List ℕ) (cell : Cell) (ch now : ℕ) → AllTold l cell ch now [] l
unfolding all_octets all_after
all_none l cell ch now = record { octets = refl; places = refl; told = λ j h. absurd (omega arith) }

-- one more entry
module _ (l : List ℕ) (cell : Cell) (ch now : ℕ) (es : List Record) (e : Record) (left left' : List ℕ) (h : length es < most_entries) (b : ch < channels) (p : AllTold l cell ch now es left)
    (q : Telling left cell ch now (length es) e left') where
  abbrev told-before : List Told
  told-before = all_told (keys_in l) (sets_in l) cell ch now (decode_of l).slots es

  octets-next : left' ≡ all_octets l cell ch now 0 (es ++ (e ∷ []))
  octets-next =
      q.octets
      ∙ ap₂ (λ (x : List ℕ) (k : ℕ). tell_octets x cell ch now k e) p.octets (sym (zero-add (length es)))
      ∙ sym (all_then l cell ch now 0 es (e ∷ []) ∙ all_one (all_octets l cell ch now 0 es) cell ch now (0 + length es) e)

  places-next : decode_of left' ≡ with_slots (decode_of l) (all_after (keys_in l) ch now (decode_of l).slots (es ++ (e ∷ [])))
  places-next =
      q.places
      ∙ ap (λ (r : Receiver). with_slots r (slots_after (keys_of r) ch now r.slots e)) p.places
      ∙ ap (with_slots (decode_of l)) (sym (after_snoc (keys_in l) (sets_in l) cell ch now (decode_of l).slots es e))

  length_before : length told-before ≡ length es
  length_before = length-all_told (keys_in l) (sets_in l) cell ch now (decode_of l).slots es

  told_here : told_no left' (length es) ≡ told_of (keys_in l) (sets_in l) cell ch now (all_after (keys_in l) ch now (decode_of l).slots es) e
  told_here = q.told ∙ ap (λ (r : Receiver). told_of (keys_of r) r.sets cell ch now r.slots e) p.places

  told-next : (j : ℕ) → j < length (es ++ (e ∷ [])) → told_no left' j ≡ get_or (all_told (keys_in l) (sets_in l) cell ch now (decode_of l).slots (es ++ (e ∷ []))) j no_told
  told-next j lt =
      let m : j < length es + 1 = rw (length-append es (e ∷ [])) at lt in
      rw (snoc_told (keys_in l) (sets_in l) cell ch now (decode_of l).slots es e)
      (by-test (ltb j (length es))
      (λ t.
      let u : j < length es = ltb-true _ _ t in
      ap (λ (x : List ℕ). told_no x j) q.octets
      ∙ told_others left cell ch now (length es) e j h b (λ z. omega arith)
      ∙ p.told j u
      ∙ sym (get_or-append told-before _ no_told j (omega (arith, length_before))))
      (λ t.
      let u : j ≡ length es = omega (arith, ltb-false j (length es) t) in
      rw u (told_here ∙ sym (get_or_at told-before _ [] no_told (length es) length_before))))

  pub all-next : AllTold l cell ch now (es ++ (e ∷ [])) left'
  all-next = record { octets = octets-next; places = places-next; told = told-next }

-- a message of one entry
pub all_one-told : (l : List ℕ) (cell : Cell) (ch now : ℕ) (e : Record) (left : List ℕ) → ch < channels → Telling l cell ch now 0 e left → AllTold l cell ch now (e ∷ []) left
all_one-told l cell ch now e left b q = all-next l cell ch now [] e l left (lit< tt) b (all_none l cell ch now) q

pub all-length : (l : List ℕ) (cell : Cell) (ch now : ℕ) (es : List Record) (left : List ℕ) → AllTold l cell ch now es left → length left ≡ length l
all-length l cell ch now es left p = ap length p.octets ∙ length-all l cell ch now 0 es

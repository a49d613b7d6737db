-- From what an event leaves in the octets to what is read there: accepted, refused, and its number. Assumes nothing.
use mathlib.Core.Path.{◌≡◌, refl, sym, ap, ◌∙◌, subst}
use mathlib.Core.List.{List, [], ◌∷◌}
use mathlib.Core.Bool.{Bool, true, false}
use Prim.Native.Nat.{ℕ, zero, suc, ◌+◌, ◌≤◌, ◌<◌}
use lib.ListN.{length, get_or}
use lib.Dec.{ltb, eqb, lit<}
use native.Mathlib.Omega.{arith}
use borrow.Author.Tests.{eqb-true, eq-eqb, ne_eqb, lt-ltb, le-ltb, lt-leb, le-leb}
use Rattle.bits.specs.Field.{pick}
use Rattle.csn1.specs.declared.Refusal.{Refusal}
use Rattle.csn1.specs.Format.{ground}
use Rattle.csn1.specs.Told.{padded, code_of}
use Rattle.receiver.specs.declared.Record.{Record}
use Rattle.receiver.specs.declared.Cell.{Cell}
use Rattle.receiver.specs.declared.Paged.{Paged}
use Rattle.receiver.specs.declared.Told.{Told}
use Rattle.receiver.specs.declared.Receiver.{Receiver}
use Rattle.receiver.specs.declared.Rule.{Rule}
use Rattle.receiver.specs.Channels.{places, number_of}
use Rattle.receiver.specs.Model.{no_paged, no_cell, late, keys_of, expired_of, dropped_of, swept_slots, remade, with_slots}
use Rattle.receiver.specs.Step.{no_told, most_entries, all_after, all_told, Event, joins, bit_is, grounds_of, refusal_of, refused_with, accepted_as, step_of}
use Rattle.receiver.specs.Step.{Content, content_of, cell_after, rule_by}
use Rattle.facch.specs.declared.Notification.{Notification as Message}
use Rattle.receiver.specs.Entries.{facch_entry, facch_entries, paged_of}
use Rattle.receiver.proofs.Cases.{by-test}
use Rattle.receiver.proofs.Refusals.{Sound, grounds-sound, refusal-sound}
use Rattle.layout.specs.Octets.{le_at, tabulate}
use Rattle.layout.specs.Layout.{state_length, tick_from, is_state, cell_at, decode_of, told_no, put_head, keys_in, sets_in}
use Rattle.layout.specs.Sweep.{swept_octets}
use Rattle.lent.specs.Events.{event_code, octets_after, Fed}
use Rattle.lent.specs.Inner.{AllTold, Accepted, early_code}
use Rattle.layout.proofs.States.{at-state}
use Rattle.layout.proofs.Decoding.{length-head, decode_head, last-head}
use Rattle.layout.proofs.Sweeps.{length_run, swept_decode}
use Rattle.lent.proofs.Tellings.{length-all, length-all_told, all-length}

-- ## The entries in use and the places behind them

table_done : {A : Type 0} (f : ℕ → A) (d : A) (m k n : ℕ) → m ≤ k → tabulate (λ j. pick (ltb j m) (f j) d) k n ≡ padded d n []
unfolding tabulate
table_done f d m k zero h = refl
table_done f d m k (suc n) h = rw (le-ltb k m h) (ap (λ l. d ∷ l) (table_done f d m (suc k) n (omega arith)))

table-padded : {A : Type 0} (f : ℕ → A) (d : A) (m k n : ℕ) (l : List A)
    → m ≡ k + length l
    → ((j : ℕ) → j < length l → f (k + j) ≡ get_or l j d)
    → tabulate (λ j. pick (ltb j m) (f j) d) k n ≡ padded d n l
unfolding tabulate
table-padded f d m k zero l q h = refl
table-padded f d m k (suc n) [] q h = table_done f d m k (suc n) (omega arith)
table-padded f d m k (suc n) (a ∷ l) q h =
    let e : k + 0 ≡ k = omega arith in
    let p : f k ≡ a = ap f (sym e) ∙ h 0 (omega arith) in
    rw (lt-ltb k m (omega arith), p)
    (ap (λ r. a ∷ r)
    (table-padded f d m (suc k) n l (omega arith) (λ j b. let e : suc k + j ≡ k + suc j = omega arith in ap f e ∙ h (suc j) (omega arith))))

-- ## An accepted event

module _ (l : List ℕ) (now : ℕ) (rule : Rule) (cell : Cell) (ch : ℕ) (es : List Record) (whole : length l ≡ state_length) (t : now < 4294967296) where
  abbrev swept : List ℕ
  swept = swept_octets now rule l

  abbrev expired : ℕ
  expired = expired_of (decode_of l) now (decode_of l).slots

  abbrev dropped : ℕ
  dropped = dropped_of (decode_of l) now rule

  swept-is : decode_of swept ≡ with_slots (decode_of l) (swept_slots (decode_of l) now rule)
  swept-is = swept_decode l now rule whole

  accepted : (told : List ℕ) (p : Paged) → p.page.identityRest < 18446744073709551616 → length es ≤ most_entries → expired < 4294967296 → dropped < 4294967296
      → AllTold swept cell ch now es told → Accepted l now rule cell ch es p (put_head told now cell expired dropped (length es) p)
  accepted told p w few x d a =
      let long : length told ≡ state_length = all-length swept cell ch now es told a ∙ length_run now rule 0 places l ∙ whole in
      let ts : List Told = all_told (keys_in l) (sets_in l) cell ch now (swept_slots (decode_of l) now rule) es in
      let same : all_told (keys_in swept) (sets_in swept) cell ch now (decode_of swept).slots es ≡ ts = ap (λ (r : Receiver). all_told (keys_of r) r.sets cell ch now r.slots es) swept-is in
      let q : length ts ≡ length es = length-all_told (keys_in l) (sets_in l) cell ch now (swept_slots (decode_of l) now rule) es in
      record {
        octets = ap (λ (o : List ℕ). put_head o now cell expired dropped (length es) p) a.octets;
        receiver =
            decode_head told now cell expired dropped (length es) p long t
            ∙ ap (λ (r : Receiver). remade r r.slots now cell)
            (a.places ∙ ap (λ (r : Receiver). with_slots r (all_after (keys_of r) ch now r.slots es)) swept-is);
        answer =
            last-head told now cell expired dropped (length es) p long x d (omega arith) w
            ∙ ap (λ (r : List Told). record { expired = expired; dropped = dropped; count = length es; entries = r; paged = p })
            (table-padded (told_no told) no_told (length es) 0 most_entries ts (omega (arith, q))
            (λ j b.
            let z : 0 + j ≡ j = omega arith in
            ap (told_no told) z ∙ a.told j (omega (arith, q)) ∙ ap (λ (r : List Told). get_or r j no_told) same));
      }

  -- the same from what the code has in hand: the octets after the sweep, and the numbers that it counted
  pub accepted_with : (p : Paged)
      → p.page.identityRest < 18446744073709551616
      → (o told left : List ℕ) (x d n : ℕ)
      → (x ≡ pick (is_state l) expired 0) × ((d ≡ pick (is_state l) dropped 0) × (o ≡ pick (is_state l) swept l))
      → x < 4294967296
      → d < 4294967296
      → n ≡ length es
      → n ≤ most_entries
      → AllTold o cell ch now es told
      → left ≡ pick (is_state told) (put_head told now cell x d n p) told
      → Accepted l now rule cell ch es p left
  accepted_with p w o told left x d n s xs ds pn few a q =
      let px : x ≡ expired = s.0 ∙ at-state l expired 0 whole in
      let pd : d ≡ dropped = s.1.0 ∙ at-state l dropped 0 whole in
      let po : o ≡ swept = s.1.1 ∙ at-state l swept l whole in
      let b = subst (λ (r : List ℕ). AllTold r cell ch now es told) po a in
      let long : length told ≡ state_length = all-length swept cell ch now es told b ∙ length_run now rule 0 places l ∙ whole in
      rw (q, at-state told (put_head told now cell x d n p) told long, px, pd, pn)
      (accepted told p w (omega (arith, few, pn)) (omega (arith, xs, px)) (omega (arith, ds, pd)) b)

  -- where nobody is paged
  pub accepted-by : (o told left : List ℕ) (x d n : ℕ)
      → (x ≡ pick (is_state l) expired 0) × ((d ≡ pick (is_state l) dropped 0) × (o ≡ pick (is_state l) swept l))
      → x < 4294967296
      → d < 4294967296
      → n ≡ length es
      → n ≤ most_entries
      → AllTold o cell ch now es told
      → left ≡ pick (is_state told) (put_head told now cell x d n no_paged) told
      → Accepted l now rule cell ch es no_paged left
  accepted-by = accepted_with no_paged (lit< tt)

-- ## What is returned

early_cases : (b c : Bool) (g : Refusal) (n : ℕ)
    → n ≡ pick b (pick c 9 0) 13
    → (n ≡ 0 → ⊥)
    → n ≡ pick b (code_of (pick c (ground 9) g)) 13
unfolding ground code_of
early_cases true true g n q z = q
early_cases true false g n q z = absurd (z q)
early_cases false c g n q z = q

none_cases : (b c : Bool) (g : Refusal) (n : ℕ) → n ≡ pick b (pick c 9 0) 13 → n ≡ 0 → (b ≡ true) × (pick b (code_of (pick c (ground 9) g)) 13 ≡ code_of g)
none_cases true true g n q z = absurd (omega (arith, q, z))
none_cases true false g n q z = (refl, refl)
none_cases false c g n q z = absurd (omega (arith, q, z))

accepted-number : (b : Bool) (n : ℕ) → pick b n 13 ≡ 0 → n ≡ 0
accepted-number true n q = q
accepted-number false n q = absurd (omega (arith, q))

-- what is returned is 0 exactly where the number is
code-number : (w : Refusal) → code_of w ≡ 0 → w.number ≡ 0
unfolding code_of
code-number w q = omega arith

number-code : (w : Refusal) → Sound w → w.number ≡ 0 → code_of w ≡ 0
unfolding code_of
number-code w s z = rw (s.clean z)

accepted-step : (l : List ℕ) (e : Event) → event_code l e ≡ 0 → step_of (decode_of l) e ≡ accepted_as (decode_of l) e.tick (content_of e.happening)
unfolding event_code step_of
accepted-step l e q =
    let w : Refusal = refusal_of (decode_of l) e in
    let b : eqb w.number 0 ≡ true = ap (λ n. eqb n 0) (code-number w (accepted-number (is_state l) (code_of w) q)) in
    rw b

pub refused-step : (l : List ℕ) (e : Event) → length l ≡ state_length → (event_code l e ≡ 0 → ⊥)
    → step_of (decode_of l) e ≡ refused_with (decode_of l) (refusal_of (decode_of l) e)
unfolding event_code step_of
refused-step l e whole z =
    let w : Refusal = refusal_of (decode_of l) e in
    let s : is_state l ≡ true = eq-eqb (length l) state_length whole in
    let b : eqb w.number 0 ≡ false = ne_eqb w.number 0 (λ p. z (rw s (number-code w (refusal-sound (decode_of l) e) p))) in
    rw b

-- ## What an event is proved to do

refused_as : (l : List ℕ) (e : Event) (n : ℕ) → n ≡ event_code l e → (n ≡ 0 → ⊥) → Fed l e l n
unfolding octets_after
refused_as l e n q z =
    let b : eqb (event_code l e) 0 ≡ false = ne_eqb (event_code l e) 0 (λ p. z (q ∙ p)) in
    record { number = q; octets = rw b; receiver = rw b; answer = rw b }

accepted_as_lem : (l : List ℕ) (e : Event) (left : List ℕ)
    → event_code l e ≡ 0
    → (x : Content)
    → x ≡ content_of e.happening
    → Accepted l e.tick (rule_by (decode_of l) x.cause) (cell_after (decode_of l).cell x.cause x.news) (number_of x.channel) x.entries x.paged left
    → Fed l e left 0
unfolding octets_after
accepted_as_lem l e left q x w a =
    let b : eqb (event_code l e) 0 ≡ true = ap (λ n. eqb n 0) q in
    let s = accepted-step l e q in
    record { number = sym q; octets = rw (b, ← w) a.octets; receiver = rw (b, s, ← w) a.receiver; answer = rw (b, s, ← w) a.answer }

-- what is known of the cell, as the code reads it
pub cell-read : (l : List ℕ) → length l ≡ state_length → (cell : Cell) → cell ≡ pick (is_state l) (cell_at l) no_cell → cell ≡ (decode_of l).cell
unfolding decode_of
cell-read l whole cell h = h ∙ at-state l (cell_at l) no_cell whole

-- the same behind a sweep, which leaves it
pub cell-behind : (l : List ℕ) (now : ℕ) (rule : Rule) → length l ≡ state_length → (o : List ℕ) → o ≡ pick (is_state l) (swept_octets now rule l) l → (cell : Cell)
    → cell ≡ pick (is_state o) (cell_at o) no_cell → cell ≡ (decode_of l).cell
cell-behind l now rule whole o q cell h =
    let po : o ≡ swept_octets now rule l = q ∙ at-state l (swept_octets now rule l) l whole in
    let long : length o ≡ state_length = ap length po ∙ length_run now rule 0 places l ∙ whole in
    cell-read o long cell h ∙ ap (λ (r : List ℕ). (decode_of r).cell) po ∙ ap (λ (r : Receiver). r.cell) (swept_decode l now rule whole)

-- n is the number that comes before the event's own
module _ (l : List ℕ) (e : Event) (n : ℕ) (q : n ≡ early_code l e.tick) where
  early-first : (n ≡ 0 → ⊥) → n ≡ event_code l e
  unfolding early_code event_code refusal_of
  early-first z = early_cases (is_state l) (late e.tick (decode_of l).tick) (grounds_of e.happening) n q z

  pub fed-early : (n ≡ 0 → ⊥) → Fed l e l n
  fed-early z = refused_as l e n (early-first z) z

  module _ (z : n ≡ 0) where
    none-early : (is_state l ≡ true) × (event_code l e ≡ code_of (grounds_of e.happening))
    unfolding early_code event_code refusal_of
    none-early = none_cases (is_state l) (late e.tick (decode_of l).tick) (grounds_of e.happening) n q z

    pub whole-then : length l ≡ state_length
    whole-then = eqb-true (length l) state_length none-early.0

    -- refused for a ground of its own
    pub fed-refused : (w : Refusal) → w ≡ grounds_of e.happening → (w.number ≡ 0 → ⊥) → (g : ℕ) → g ≡ code_of w → Fed l e l g
    fed-refused w h x g d = refused_as l e g (d ∙ ap code_of h ∙ sym none-early.1) (λ z. x (code-number w (sym d ∙ z)))

    pub cell-then : (cell : Cell) → cell ≡ pick (is_state l) (cell_at l) no_cell → cell ≡ (decode_of l).cell
    cell-then cell h = cell-read l whole-then cell h

    pub fed-accepted : (rule : Rule) (cell : Cell) (left : List ℕ)
        → (grounds_of e.happening).number ≡ 0
        → (x : Content)
        → x ≡ content_of e.happening
        → rule ≡ rule_by (decode_of l) x.cause
        → cell ≡ cell_after (decode_of l).cell x.cause x.news
        → Accepted l e.tick rule cell (number_of x.channel) x.entries x.paged left
        → Fed l e left 0
    fed-accepted rule cell left g x w r c a = accepted_as_lem l e left (none-early.1 ∙ number-code (grounds_of e.happening) (grounds-sound e.happening) g) x w (rw (← r, ← c) a)

-- ## The length

pub length-after : (l : List ℕ) (e : Event) → length (octets_after l e) ≡ length l
unfolding octets_after
length-after l e =
    by-test (eqb (event_code l e) 0)
    (λ p. rw p (length-head _ _ _ _ _ _ _ ∙ length-all _ _ _ e.tick 0 (content_of e.happening).entries ∙ length_run e.tick _ 0 places l))
    (λ p. rw p)

pub refused-stays : (l : List ℕ) (e : Event) → (event_code l e ≡ 0 → ⊥) → octets_after l e ≡ l
unfolding octets_after
refused-stays l e z = rw (ne_eqb (event_code l e) 0 z)

-- ## The tests of the code

pub early_wrong : (l : List ℕ) (time : ℕ) → (length l ≡ state_length → ⊥) → 13 ≡ early_code l time
unfolding early_code
early_wrong l time z = rw (ne_eqb (length l) state_length z)

-- t is the last tick as the code reads it
pub early-right : (l : List ℕ) (time t : ℕ) (b c : Bool) → length l ≡ state_length → t ≡ pick (is_state l) (le_at 4 l tick_from) 0 → b ≡ late time t → b ≡ c
    → pick c 9 0 ≡ early_code l time
unfolding early_code decode_of
early-right l time t b c w r q p =
    rw (eq-eqb (length l) state_length w, ← r ∙ at-state l (le_at 4 l tick_from) 0 w, ← q, p)

-- a joined key above 199,999,999 is 4
pub joined-out : (k : ℕ) → 199999999 < k → ground 4 ≡ grounds_of (joins k)
joined-out k h = rw (lt-leb k 199999999 h)

pub four : ((ground 4).number ≡ 0 → ⊥) × (4 ≡ code_of (ground 4))
unfolding ground code_of
four = (λ z. omega arith, refl)

pub joined_in : (k : ℕ) → k ≤ 199999999 → (grounds_of (joins k)).number ≡ 0
joined_in k h = rw (le-leb k 199999999 h)

-- a bit above 1 is 12
pub bit-out : (b : ℕ) → 1 < b → ground 12 ≡ grounds_of (bit_is b)
bit-out b h = rw (lt-leb b 1 h)

pub twelve : ((ground 12).number ≡ 0 → ⊥) × (12 ≡ code_of (ground 12))
unfolding ground code_of
twelve = (λ z. omega arith, refl)

pub bit_in : (b : ℕ) → b ≤ 1 → (grounds_of (bit_is b)).number ≡ 0
bit_in b h = rw (le-leb b 1 h)

-- a FACCH message notifies a call, or pages somebody
pub call-entries : (m : Message) → m.paging ≡ false → facch_entries m ≡ facch_entry m ∷ []
unfolding facch_entries
call-entries m h = rw h

pub call-paged : (m : Message) → m.paging ≡ false → paged_of m ≡ no_paged
unfolding paged_of
call-paged m h = rw h

pub page_entries : (m : Message) → m.paging ≡ true → facch_entries m ≡ []
unfolding facch_entries
page_entries m h = rw h

-- The sweep over the places: what is left, what is read there, and what is counted. Assumes nothing.
use mathlib.Core.Path.{◌≡◌, refl, ap, ap₂, sym, ◌∙◌}
use mathlib.Core.Bool.{Bool, true, false}
use mathlib.Core.List.{List}
use Prim.Native.Nat.{ℕ, zero, suc, ◌+◌, ◌-◌, ◌≤◌, ◌<◌}
use native.Mathlib.Nat.{add-zero, zero-add, add_assoc, add-suc, suc-add}
use native.Mathlib.Omega.{arith}
use lib.Dec.{lit≤, eqb}
use lib.ListN.{length, get_or, set}
use Rattle.bits.specs.Field.{pick}
use Rattle.csn1.specs.Told.{as_bit}
use Rattle.receiver.specs.declared.Receiver.{Receiver}
use Rattle.receiver.specs.declared.Rule.{Rule}
use Rattle.receiver.specs.declared.Slot.{Slot}
use Rattle.receiver.specs.Channels.{channels, places, place_on, side_of, index_in, by_number_of}
use Rattle.receiver.specs.Model.{empty_slot, wrap_sub, timer_at, takes, spares, ran_out_of, taken_of, kept_of, count_at, swept_slots, expired_of, dropped_of, with_slots}
use Rattle.receiver.proofs.Cases.{by-test}
use Rattle.receiver.proofs.Loops.{part_at, part-set, part-keep, part-all}
use Rattle.layout.specs.Octets.{le_at, tabulate}
use Rattle.layout.specs.Layout.{tick_from, timers_from, cell_from, kinds_from, sinces_from, answer_from, state_length, kind_place, since_place, slot_no, decode_of, put_slot}
use Rattle.layout.specs.Sweep.{timer_no, goes, swept_at, swept_run, swept_octets}
use Rattle.layout.proofs.Numbers.{le_ext}
use Rattle.layout.proofs.Decoding.{slot_of, slots_length, slot-empty, length_put, put_elsewhere, slot_put_other, decode_clear}

-- ## One place

-- its timer, by the timers of the channels
pub timer-by : (l : List ℕ) (i t3206 t3208 t3210 timer : ℕ) → t3206 ≡ le_at 4 l timers_from → t3208 ≡ le_at 4 l (timers_from + 4) → t3210 ≡ le_at 4 l (timers_from + 8)
    → timer ≡ by_number_of (side_of i) t3206 t3208 t3210 → timer ≡ timer_no l i
timer-by l i t3206 t3208 t3210 timer p q r e = e ∙ (λ x. by_number_of (side_of i) (p x) (q x) (r x))

-- one timer runs at all places of a channel
pub timer-same : (l : List ℕ) (i j : ℕ) → side_of i ≡ side_of j → timer_no l i ≡ timer_no l j
timer-same l i j e = ap (λ (s : ℕ). by_number_of s (le_at 4 l timers_from) (le_at 4 l (timers_from + 4)) (le_at 4 l (timers_from + 8))) e

-- what a rule leaves at the place of a key on a channel
pub spares-on : (rule : Rule) (key ch : ℕ) → ch < channels → spares rule (place_on key ch) ≡ pick (takes rule ch) (eqb key rule.but) true
unfolding spares
spares-on rule key ch h =
    let s : side_of (place_on key ch) ≡ ch = omega arith in
    let i : index_in (place_on key ch) ≡ key = omega arith in
    ap₂ (λ (x y : ℕ). pick (takes rule x) (eqb y rule.but) true) s i

-- how long its half stays yet, by the numbers that the code reads
pub left_by : (l : List ℕ) (i t3206 t3208 t3210 timer now since age left : ℕ) → t3206 ≡ le_at 4 l timers_from → t3208 ≡ le_at 4 l (timers_from + 4) → t3210 ≡ le_at 4 l (timers_from + 8)
    → timer ≡ by_number_of (side_of i) t3206 t3208 t3210 → now ≡ le_at 4 l tick_from → since ≡ le_at 4 l (since_place i) → age ≡ wrap_sub now since → left ≡ timer - age
    → left ≡ timer_no l i - wrap_sub (le_at 4 l tick_from) (le_at 4 l (since_place i))
left_by l i t3206 t3208 t3210 timer now since age left p q r e n s w h =
    h ∙ ap₂ (λ (x y : ℕ). x - y) (timer-by l i t3206 t3208 t3210 timer p q r e) (w ∙ (λ x. wrap_sub (n x) (s x)))

-- nothing runs out where nothing is held
pub ran-empty : (now : ℕ) (l : List ℕ) (i : ℕ) → get_or l (kind_place i) 0 ≡ 0 → ran_out_of now (timer_no l i) (slot_no l i) ≡ false
unfolding ran_out_of
ran-empty now l i e = rw (slot-empty l i e)

module _ (now : ℕ) (rule : Rule) where
  swept-gone : (l : List ℕ) (i : ℕ) → goes l now rule i ≡ true → swept_at now rule l i ≡ put_slot l i empty_slot
  unfolding swept_at
  swept-gone l i p = rw p refl

  pub swept_kept : (l : List ℕ) (i : ℕ) → goes l now rule i ≡ false → swept_at now rule l i ≡ l
  unfolding swept_at
  swept_kept l i p = rw p refl

  -- what holds of the octets where the place is emptied and of those where it is not
  by_place : (P : List ℕ → Type 0) (l : List ℕ) (i : ℕ) → P (put_slot l i empty_slot) → P l → P (swept_at now rule l i)
  by_place P l i a b = by-test (goes l now rule i) (λ p. rw (swept-gone l i p) a) (λ p. rw (swept_kept l i p) b)

  length_at : (l : List ℕ) (i : ℕ) → length (swept_at now rule l i) ≡ length l
  length_at l i = by_place (λ (x : List ℕ). length x ≡ length l) l i (length_put l i empty_slot) refl

  -- an empty place stays
  pub taken-empty : (l : List ℕ) (i : ℕ) → get_or l (kind_place i) 0 ≡ 0 → taken_of now (timer_no l i) rule i (slot_no l i) ≡ false
  unfolding taken_of
  taken-empty l i e = rw (slot-empty l i e)

  pub goes-empty : (l : List ℕ) (i : ℕ) → get_or l (kind_place i) 0 ≡ 0 → goes l now rule i ≡ false
  goes-empty l i e = rw (ran-empty now l i e) (taken-empty l i e)

  -- ## A run of places

  pub length_run : (from n : ℕ) (l : List ℕ) → length (swept_run now rule from n l) ≡ length l
  unfolding swept_run
  length_run from zero l = refl
  length_run from (suc n) l = length_at (swept_run now rule from n l) (from + n) ∙ length_run from n l

  pub run-then : (from m n : ℕ) (l : List ℕ) → swept_run now rule from (m + n) l ≡ swept_run now rule (from + m) n (swept_run now rule from m l)
  unfolding swept_run
  run-then from m zero l = rw add-zero refl
  run-then from m (suc n) l =
      ap (λ (k : ℕ). swept_run now rule from k l) (add-suc m n)
      ∙ ap₂ (λ (x : List ℕ) (k : ℕ). swept_at now rule x k) (run-then from m n l) (sym (add_assoc from m n))

  -- the octets of no place
  pub run-elsewhere : (from n : ℕ) (l : List ℕ) → from + n ≤ places → (j : ℕ) → (kinds_from ≤ j → kind_place places ≤ j) → (sinces_from ≤ j → answer_from ≤ j)
      → get_or (swept_run now rule from n l) j 0 ≡ get_or l j 0
  unfolding swept_run
  run-elsewhere from zero l h j p q = refl
  run-elsewhere from (suc n) l h j p q =
      by_place (λ (x : List ℕ). get_or x j 0 ≡ get_or (swept_run now rule from n l) j 0) (swept_run now rule from n l) (from + n)
      (put_elsewhere (swept_run now rule from n l) (from + n) empty_slot j (omega arith) (λ e. omega (arith, p (omega arith)))
      (λ x. omega (arith, q (omega arith))) (λ x. omega (arith, q (omega arith)))) refl
      ∙ run-elsewhere from n l (omega arith) j p q

  pub run-timer : (from n : ℕ) (l : List ℕ) → from + n ≤ places → (i : ℕ) → timer_no (swept_run now rule from n l) i ≡ timer_no l i
  run-timer from n l h i =
      let k = swept_run now rule from n l in
      let same : (at : ℕ) → at + 4 ≤ cell_from → le_at 4 k at ≡ le_at 4 l at =
      λ at b. le_ext 4 k l at at (λ m c. run-elsewhere from n l h (at + m) (λ x. omega arith) (λ x. omega arith))
      in
      timer-by l i _ _ _ _ (same timers_from (omega arith)) (same (timers_from + 4) (omega arith)) (same (timers_from + 8) (omega arith)) refl

  -- the places that it does not come to
  pub run-slot : (from n : ℕ) (l : List ℕ) (k : ℕ) → length l ≡ state_length → from + n ≤ places → k < places → (from ≤ k → from + n ≤ k)
      → slot_no (swept_run now rule from n l) k ≡ slot_no l k
  unfolding swept_run
  run-slot from zero l k m h lt o = refl
  run-slot from (suc n) l k m h lt o =
      by_place (λ (x : List ℕ). slot_no x k ≡ slot_no (swept_run now rule from n l) k) (swept_run now rule from n l) (from + n)
      (slot_put_other (swept_run now rule from n l) (from + n) k empty_slot (omega arith) lt (λ e. omega (arith, o (omega arith)))) refl
      ∙ run-slot from n l k m (omega arith) lt (λ x. omega (arith, o x))

  -- nothing goes
  pub run-still : (from n : ℕ) (l : List ℕ) → ((k : ℕ) → k < n → goes l now rule (from + k) ≡ false) → swept_run now rule from n l ≡ l
  unfolding swept_run
  run-still from zero l e = refl
  run-still from (suc n) l e =
      ap (λ (x : List ℕ). swept_at now rule x (from + n)) (run-still from n l (λ k h. e k (omega arith))) ∙ swept_kept l (from + n) (e n (omega arith))

-- ## What is read after the whole sweep

gone : {A : Type 0} (b c : Bool) (z s : A) → pick b true c ≡ true → pick b z (pick c z s) ≡ z
gone true c z s e = refl
gone false true z s e = refl
gone false false z s e = cc

kept : {A : Type 0} (b c : Bool) (z s : A) → pick b true c ≡ false → pick b z (pick c z s) ≡ s
kept true c z s e = cc
kept false true z s e = cc
kept false false z s e = refl

module _ (now : ℕ) (rule : Rule) (l : List ℕ) (m : length l ≡ state_length) where
  abbrev keeps : ℕ → Slot → Slot
  keeps i s = kept_of now (timer_at (decode_of l) i) rule i s

  abbrev run : ℕ → List ℕ
  run n = swept_run now rule 0 n l

  abbrev old : ℕ → Slot
  old n = get_or (decode_of l).slots n empty_slot

  -- place n as the first n places' sweep left it
  met-there : (n : ℕ) → n < places → slot_no (run n) n ≡ old n
  met-there n h = run-slot now rule 0 n l n m (omega arith) h (λ x. omega arith) ∙ sym (slot_of l n h)

  abbrev ran : ℕ → Bool
  ran n = ran_out_of now (timer_at (decode_of l) n) (old n)

  abbrev taken : ℕ → Bool
  taken n = taken_of now (timer_at (decode_of l) n) rule n (old n)

  goes-there : (n : ℕ) → n < places → (b : Bool) → goes (run n) now rule n ≡ b → pick (ran n) true (taken n) ≡ b
  unfolding decode_of
  goes-there n h b p = rw (run-timer now rule 0 n l (omega arith) n, met-there n h) at p

  gone-there : (n : ℕ) → n < places → goes (run n) now rule n ≡ true → keeps n (old n) ≡ empty_slot
  unfolding kept_of
  gone-there n h p = gone (ran n) (taken n) empty_slot (old n) (goes-there n h true p)

  kept_there : (n : ℕ) → n < places → goes (run n) now rule n ≡ false → keeps n (old n) ≡ old n
  unfolding kept_of
  kept_there n h p = kept (ran n) (taken n) empty_slot (old n) (goes-there n h false p)

  run_decode : (n : ℕ) → n ≤ places → decode_of (run n) ≡ with_slots (decode_of l) (part_at keeps 0 n (decode_of l).slots)
  unfolding swept_run
  run_decode zero h = refl
  run_decode (suc n) h =
      let ih = run_decode n (omega arith) in
      ap (λ (k : ℕ). decode_of (swept_at now rule (run n) k)) (zero-add n)
      ∙ by-test (goes (run n) now rule n)
      (λ p.
      ap decode_of (swept-gone now rule (run n) n p)
      ∙ decode_clear (run n) n (length_run now rule 0 n l ∙ m) (omega arith)
      ∙ ap (λ (s : Receiver). with_slots s (set s.slots n empty_slot)) ih
      ∙ ap (with_slots (decode_of l))
      (part-set keeps 0 n (decode_of l).slots empty_slot empty_slot (rw (zero-add n) (sym (gone-there n (omega arith) p)))))
      (λ p.
      ap decode_of (swept_kept now rule (run n) n p)
      ∙ ih
      ∙ ap (with_slots (decode_of l)) (part-keep keeps 0 n (decode_of l).slots empty_slot (rw (zero-add n) (kept_there n (omega arith) p))))

pub swept_decode : (l : List ℕ) (now : ℕ) (rule : Rule) → length l ≡ state_length
    → decode_of (swept_octets now rule l) ≡ with_slots (decode_of l) (swept_slots (decode_of l) now rule)
unfolding swept_slots
swept_decode l now rule m =
    run_decode now rule l m places (omega arith)
    ∙ ap (with_slots (decode_of l)) (part-all (keeps now rule l m) 0 places (decode_of l).slots (omega (arith, slots_length l)))

-- ## What is counted

-- how many of n places from a place on pass a test
unfoldable pub count_run : (ℕ → Bool) → ℕ → ℕ → ℕ
count_run t from zero = 0
count_run t from (suc n) = count_run t from n + as_bit (t (from + n))

module _ (t : ℕ → Bool) where
  pub count-zero : (from : ℕ) → count_run t from 0 ≡ 0
  unfolding count_run
  count-zero from = refl

  pub count_next : (from n : ℕ) → count_run t from (suc n) ≡ count_run t from n + as_bit (t (from + n))
  unfolding count_run
  count_next from n = refl

  pub count-then : (from m n : ℕ) → count_run t from (m + n) ≡ count_run t from m + count_run t (from + m) n
  unfolding count_run
  count-then from m zero = simp add-zero
  count-then from m (suc n) =
      ap (count_run t from) (add-suc m n)
      ∙ ap₂ (λ (x k : ℕ). x + as_bit (t k)) (count-then from m n) (sym (add_assoc from m n))
      ∙ add_assoc (count_run t from m) (count_run t (from + m) n) (as_bit (t (from + m + n)))

  bit-most : (b : Bool) → as_bit b ≤ 1
  bit-most true = lit≤ tt
  bit-most false = lit≤ tt

  pub count_most : (from n : ℕ) → count_run t from n ≤ n
  unfolding count_run
  count_most from zero = lit≤ tt
  count_most from (suc n) = omega (arith, count_most from n, bit-most (t (from + n)))

  count_none : (from n : ℕ) → ((k : ℕ) → k < n → t (from + k) ≡ false) → count_run t from n ≡ 0
  unfolding count_run
  count_none from zero e = refl
  count_none from (suc n) e = rw (e n (omega arith), count_none from n (λ k h. e k (omega arith))) refl

  count-first : (from n : ℕ) → count_run t from (suc n) ≡ as_bit (t from) + count_run t (suc from) n
  unfolding count_run
  count-first from zero = rw add-zero (omega arith)
  count-first from (suc n) =
      ap₂ (λ (x k : ℕ). x + as_bit (t k)) (count-first from n) (add-suc from n ∙ sym (suc-add from n))
      ∙ add_assoc (as_bit (t from)) (count_run t (suc from) n) (as_bit (t (suc from + n)))

pub count_ext : (t u : ℕ → Bool) (from n : ℕ) → ((k : ℕ) → k < n → t (from + k) ≡ u (from + k)) → count_run t from n ≡ count_run u from n
unfolding count_run
count_ext t u from zero e = refl
count_ext t u from (suc n) e =
    ap₂ (λ (x : ℕ) (b : Bool). x + as_bit b) (count_ext t u from n (λ k h. e k (omega arith))) (e n (omega arith))

-- in a table
pub count-table : {A : Type 0} (f : ℕ → A → Bool) (g : ℕ → A) (k n : ℕ) → count_at f k (tabulate g k n) ≡ count_run (λ i. f i (g i)) k n
unfolding tabulate
count-table f g k zero = sym (count-zero (λ i. f i (g i)) k)
count-table f g k (suc n) =
    ap (λ (x : ℕ). as_bit (f k (g k)) + x) (count-table f g (suc k) n) ∙ sym (count-first (λ i. f i (g i)) k n)

pub count-expired : (l : List ℕ) (now : ℕ)
    → expired_of (decode_of l) now (decode_of l).slots ≡ count_run (λ i. ran_out_of now (timer_no l i) (slot_no l i)) 0 places
unfolding expired_of decode_of
count-expired l now = count-table (λ i s. ran_out_of now (timer_no l i) s) (slot_no l) 0 places

pub count-dropped : (l : List ℕ) (now : ℕ) (rule : Rule)
    → dropped_of (decode_of l) now rule ≡ count_run (λ i. taken_of now (timer_no l i) rule i (slot_no l i)) 0 places
unfolding dropped_of decode_of
count-dropped l now rule = count-table (λ i s. taken_of now (timer_no l i) rule i s) (slot_no l) 0 places

-- where nothing goes, nothing is counted
neither : (b c : Bool) → pick b true c ≡ false → (b ≡ false) × (c ≡ false)
neither true c e = (cc, cc)
neither false c e = (refl, e)

module _ (l : List ℕ) (now : ℕ) (rule : Rule) (from n : ℕ) (still : (k : ℕ) → k < n → goes l now rule (from + k) ≡ false) where
  abbrev ran_here : ℕ → Bool
  ran_here i = ran_out_of now (timer_no l i) (slot_no l i)

  abbrev taken_here : ℕ → Bool
  taken_here i = taken_of now (timer_no l i) rule i (slot_no l i)

  pub still-expired : count_run ran_here from n ≡ 0
  still-expired = count_none ran_here from n (λ k h. (neither (ran_here (from + k)) (taken_here (from + k)) (still k h)).0)

  pub still-dropped : count_run taken_here from n ≡ 0
  still-dropped = count_none taken_here from n (λ k h. (neither (ran_here (from + k)) (taken_here (from + k)) (still k h)).1)

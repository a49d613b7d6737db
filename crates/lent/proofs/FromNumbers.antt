-- An NCH message by its numbers: where its parts stand among them, and what a turn of the loops over its entries adds. Assumes nothing.
use mathlib.Core.Path.{◌≡◌, refl, sym, ap, ◌∙◌}
use mathlib.Core.List.{List}
use mathlib.Core.Bool.{Bool, true, false}
use mathlib.Core.Option.{none, some}
use Prim.Native.Nat.{ℕ, zero, suc, ◌+◌, ◌-◌, ◌*◌, ◌≤◌, ◌<◌, min}
use native.Mathlib.Omega.{arith}
use lib.Dec.{leb}
use lib.ListN.{length, get_or, length-take}
use mir.Val.{bool_byte}
use Rattle.csn1.specs.Told.{as_bit, is_one}
use Rattle.csn1.proofs.Writing.{bit-back, flag_byte}
use Rattle.call.specs.Call.{no_call}
use Rattle.arrays.specs.Limits.{word}
use Rattle.arrays.proofs.Running.{parts_at}
use Rattle.nch.specs.Told.{no_reduced, no_random}
use Rattle.nch.specs.Write.{calls_of}
use Rattle.nch.specs.Owners.{nth, randoms_of, marks_of}
use Rattle.nch.specs.Places.{numbered_at, calls_at, first_call, call_length, most_calls, reduceds_at, first_reduced, reduced_length}
use Rattle.nch.specs.Places.{most_reduceds, randoms_at, first_random, random_length, most_randoms, marks_at, first_mark, most_marks, all_length}
use Rattle.nch.specs.CallNumbers.{call_from_of, call_by}
use Rattle.nch.specs.Inner.{CallFits, reduced_from, ReducedFits}
use Rattle.nch.specs.NotificationNumbers.{random_from, release6_by, release7_by, record_from, most, Fits, record_by, reduced_by}
use Rattle.nch.proofs.NotificationFits.{most_at, fits-at, reduced-fits, call_fits}
use Rattle.receiver.specs.Model.{key_of}
use Rattle.receiver.specs.Step.{most_entries}
use Rattle.receiver.specs.Entries.{call_with, reduced_with, nch_entries}
use Rattle.receiver.proofs.MessageEntries.{nth_past, nth-there}
use Rattle.layout.specs.Layout.{state_length}
use Rattle.receiver.specs.declared.Cell.{Cell}
use Rattle.lent.specs.Inner.{Telling, entry_from, EntryFits}
use Rattle.lent.proofs.Tellings.{all-length}
use Rattle.lent.proofs.Messages.{ToldTo, entries-count, call-told, reduced-told, few_owned}

-- ## Where the parts stand

abbrev pub call_at : ℕ → ℕ
call_at i = first_call + call_length * i

abbrev pub reduced_at : ℕ → ℕ
reduced_at j = first_reduced + reduced_length * j

abbrev random_at : ℕ → ℕ
random_at k = first_random + random_length * k

abbrev mark_at : ℕ → ℕ
mark_at k = first_mark + k

module _ (ns : List ℕ) where
  call_from : (i : ℕ) → i < most_calls → get_or (record_from ns).calls i no_call ≡ call_from_of ns (call_at i)
  unfolding record_by
  call_from i h = parts_at call_length (call_from_of ns) first_call most_calls no_call i h

  reduced-from : (j : ℕ) → j < most_reduceds → get_or (record_from ns).release6.reduced j no_reduced ≡ reduced_from ns (reduced_at j)
  unfolding record_by release6_by
  reduced-from j h = parts_at reduced_length (reduced_from ns) first_reduced most_reduceds no_reduced j h

  random-from : (k : ℕ) → k < most_randoms → get_or (record_from ns).release6.randoms k no_random ≡ random_from ns (random_at k)
  unfolding record_by release6_by
  random-from k h = parts_at random_length (random_from ns) first_random most_randoms no_random k h

  mark_from : (k : ℕ) → k < most_marks → get_or (record_from ns).release7.marks k false ≡ is_one (get_or ns (mark_at k) 0)
  unfolding record_by release7_by
  mark_from k h =
      let e : first_mark + 1 * k ≡ mark_at k = omega arith in
      parts_at 1 (λ at. is_one (get_or ns at 0)) first_mark most_marks false k h ∙ ap (λ (at : ℕ). is_one (get_or ns at 0)) e

  -- the arrays have their places
  calls-placed : length (record_from ns).calls ≡ most_calls
  unfolding record_by
  calls-placed = refl

  reduceds_placed : length (record_from ns).release6.reduced ≡ most_reduceds
  unfolding record_by release6_by
  reduceds_placed = refl

  calls-counted : (record_from ns).callcount ≡ get_or ns calls_at 0
  unfolding record_by
  calls-counted = refl

  reduceds_counted : (record_from ns).release6.reducedcount ≡ get_or ns reduceds_at 0
  unfolding record_by release6_by
  reduceds_counted = refl

  -- ## The k-th random entry and the k-th mark in use

  pub random-there : (k : ℕ) → k < most_randoms → k < get_or ns randoms_at 0 → nth k (randoms_of (record_from ns)) ≡ some (random_from ns (random_at k))
  unfolding record_by release6_by
  random-there k h l = nth-there k (get_or ns randoms_at 0) (record_from ns).release6.randoms no_random l h ∙ ap some (random-from k h)

  pub random-past : (k : ℕ) → get_or ns randoms_at 0 ≤ k → nth k (randoms_of (record_from ns)) ≡ none
  unfolding record_by release6_by
  random-past k l = nth_past k (get_or ns randoms_at 0) (record_from ns).release6.randoms (omega arith)

  pub mark_there : (k : ℕ) → k < most_marks → k < get_or ns marks_at 0 → nth k (marks_of (record_from ns)) ≡ some (is_one (get_or ns (mark_at k) 0))
  unfolding record_by release7_by
  mark_there k h l = nth-there k (get_or ns marks_at 0) (record_from ns).release7.marks false l h ∙ ap some (mark_from k h)

  pub mark_past : (k : ℕ) → get_or ns marks_at 0 ≤ k → nth k (marks_of (record_from ns)) ≡ none
  unfolding record_by release7_by
  mark_past k l = nth_past k (get_or ns marks_at 0) (record_from ns).release7.marks (omega arith)

-- ## What their numbers can be

record CallNo (ns : List ℕ) (at : ℕ) : Type 0 where
  pub fits : CallFits ns at
  pub service : get_or ns (at + 1) 0 ≤ 1
  pub hasDescription : get_or ns (at + 5) 0 ≤ 1

record ReducedNo (ns : List ℕ) (at : ℕ) : Type 0 where
  pub fits : ReducedFits ns at
  pub service : get_or ns (at + 1) 0 ≤ 1

module _ (ns : List ℕ) (f : Fits ns) where
  call-numbers : (at : ℕ) → CallFits ns at → at + 5 < all_length → most_at (at + 1) ≡ 1 → most_at (at + 5) ≡ 1 → CallNo ns at
  call-numbers at c h s d =
      record { fits = c; service = fits-at ns f (at + 1) 1 (omega arith) (omega arith) s; hasDescription = fits-at ns f (at + 5) 1 (omega arith) (omega arith) d }

  call_no : (i : ℕ) → i < most_calls → CallNo ns (call_at i)
  unfolding most
  call_no zero h = call-numbers (call_at 0) (call_fits ns f (call_at 0) (omega arith) (omega arith) refl refl refl refl refl) (omega arith) refl refl
  call_no (suc zero) h = call-numbers (call_at 1) (call_fits ns f (call_at 1) (omega arith) (omega arith) refl refl refl refl refl) (omega arith) refl refl
  call_no (suc (suc zero)) h = call-numbers (call_at 2) (call_fits ns f (call_at 2) (omega arith) (omega arith) refl refl refl refl refl) (omega arith) refl refl
  call_no (suc (suc (suc zero))) h = call-numbers (call_at 3) (call_fits ns f (call_at 3) (omega arith) (omega arith) refl refl refl refl refl) (omega arith) refl refl
  call_no (suc (suc (suc (suc i)))) h = absurd (omega arith)

  reduced-numbers : (at : ℕ) → numbered_at ≤ at → at + reduced_length ≤ all_length → most_at at ≡ word → most_at (at + 1) ≡ 1 → ReducedNo ns at
  reduced-numbers at o h r s = record { fits = reduced-fits ns f at o h r; service = fits-at ns f (at + 1) 1 (omega arith) (omega arith) s }

  reduced_no : (j : ℕ) → j < most_reduceds → ReducedNo ns (reduced_at j)
  unfolding most
  reduced_no zero h = reduced-numbers (reduced_at 0) (omega arith) (omega arith) refl refl
  reduced_no (suc zero) h = reduced-numbers (reduced_at 1) (omega arith) (omega arith) refl refl
  reduced_no (suc (suc zero)) h = reduced-numbers (reduced_at 2) (omega arith) (omega arith) refl refl
  reduced_no (suc (suc (suc zero))) h = reduced-numbers (reduced_at 3) (omega arith) (omega arith) refl refl
  reduced_no (suc (suc (suc (suc zero)))) h = reduced-numbers (reduced_at 4) (omega arith) (omega arith) refl refl
  reduced_no (suc (suc (suc (suc (suc j))))) h = absurd (omega arith)

  call_entry-fits : (i : ℕ) → i < most_calls → (mark : ℕ) → mark < most_marks → EntryFits ns true (call_at i) mark
  call_entry-fits i h mark k =
      let c = call_no i h in
      record {
        there = omega arith;
        reference = c.fits.reference;
        service = c.service;
        call = λ e. (c.fits, (omega arith, k));
        reduced = λ e. absurd (let z : ◌≡◌ {A = ℕ} 1 0 = ap as_bit e in omega arith);
      }

  reduced_entry-fits : (j : ℕ) → j < most_reduceds → (mark : ℕ) → EntryFits ns false (reduced_at j) mark
  reduced_entry-fits j h mark =
      let r = reduced_no j h in
      record {
        there = omega arith;
        reference = r.fits.reference;
        service = r.service;
        call = λ e. absurd (let z : ◌≡◌ {A = ℕ} 0 1 = ap as_bit e in omega arith);
        reduced = λ e. r.fits;
      }

-- the key of an entry, from its first two numbers
pub key-from : (ns : List ℕ) (full : Bool) (at random mark : ℕ) → get_or ns (at + 1) 0 ≤ 1
    → get_or ns at 0 * 2 + get_or ns (at + 1) 0 ≡ key_of (entry_from ns full at random mark).call
unfolding call_with reduced_with call_by reduced_by
key-from ns true at random mark h = ap (λ (x : ℕ). get_or ns at 0 * 2 + x) (sym (bit-back (get_or ns (at + 1) 0) (omega arith)))
key-from ns false at random mark h = ap (λ (x : ℕ). get_or ns at 0 * 2 + x) (sym (bit-back (get_or ns (at + 1) 0) (omega arith)))

-- ## Turns of the loops

pub entries_are : (ns : List ℕ) (n : ℕ) → n ≡ min (get_or ns calls_at 0) most_calls → length (nch_entries (record_from ns)) ≡ n + min (get_or ns reduceds_at 0) most_reduceds
entries_are ns n q = omega (arith, entries-count (record_from ns) (calls-placed ns) (reduceds_placed ns), calls-counted ns, reduceds_counted ns)

-- what telling an entry asks for
abbrev Asks : List ℕ → List ℕ → ℕ → Bool → ℕ → ℕ → ℕ → Type 0
Asks ns left i full at random mark =
    (length left ≡ state_length) × ((i < most_entries) × (Fits ns × ((random < most_randoms) × EntryFits ns full at mark)))

module _ (ns : List ℕ) (f : Fits ns) (l : List ℕ) (cell : Cell) (now random mark i : ℕ) (left : List ℕ) (p : ToldTo l cell now (record_from ns) random mark i left) (n : ℕ)
    (q : n ≡ min (get_or ns calls_at 0) most_calls) where
  calls_are : length (calls_of (record_from ns)) ≡ n
  calls_are = omega (arith, length-take (record_from ns).callcount (record_from ns).calls, calls-counted ns, calls-placed ns)

  few : (random ≤ i) × ((mark ≤ i) × (mark ≤ length (calls_of (record_from ns))))
  few = few_owned l cell now (record_from ns) random mark i left p

  long : length l ≡ state_length → length left ≡ state_length
  long w = all-length l cell 0 now _ left p.told ∙ w

  -- a call: what it asks for, and how far the next random entry and mark can be
  module _ (h : i < n) where
    pub call_asks : length l ≡ state_length → Asks ns left i true (call_at i) random mark
    call_asks w = (long w, (omega (arith, q), (f, (omega (arith, few, q), call_entry-fits ns f i (omega (arith, q)) mark (omega (arith, few, q))))))

    pub call_next : (random < most_randoms) × ((mark < most_marks) × (get_or ns (call_at i + 5) 0 ≤ 1))
    call_next = (omega (arith, few, q), (omega (arith, few, q), (call_no ns f i (omega (arith, q))).hasDescription))

    pub turn_call : (left' : List ℕ) → Telling left cell 0 now i (call_with (record_from ns) random mark (call_from_of ns (call_at i))) left'
        → ToldTo l cell now (record_from ns) (random + bool_byte (leb 1 (get_or ns (call_at i + 4) 0))) (mark + get_or ns (call_at i + 5) 0) (i + 1) left'
    unfolding call_by
    turn_call left' t =
        let e = call_from ns i (omega (arith, q)) in
        call-told l cell now (record_from ns) random mark i left p (omega (arith, entries_are ns n q)) left' (calls-placed ns) (omega (arith, calls_are)) (rw e t)
        (bool_byte (leb 1 (get_or ns (call_at i + 4) 0))) (get_or ns (call_at i + 5) 0) (flag_byte (leb 1 (get_or ns (call_at i + 4) 0)) ∙ rw e)
        (sym (bit-back (get_or ns (call_at i + 5) 0) (omega (arith, call_next))) ∙ rw e)

  -- a reduced reference
  module _ (k : n ≤ i) (h : i < n + min (get_or ns reduceds_at 0) most_reduceds) where
    pub reduced-asks : length l ≡ state_length → Asks ns left i false (reduced_at (i - n)) random mark
    reduced-asks w = (long w, (omega (arith, q), (f, (omega (arith, few, q), reduced_entry-fits ns f (i - n) (omega arith) mark))))

    pub turn_reduced : (left' : List ℕ) → Telling left cell 0 now i (reduced_with (record_from ns) random (reduced_from ns (reduced_at (i - n)))) left'
        → ToldTo l cell now (record_from ns) (random + 1) mark (i + 1) left'
    turn_reduced left' t =
        let e = reduced-from ns (i - n) (omega arith) in
        let z : mark + 0 ≡ mark = omega arith in
        let m = entries_are ns n q in
        rw z at (reduced-told l cell now (record_from ns) random mark i left p (omega (arith, m)) left' (omega (arith, calls_are)) (omega (arith, m)) (rw (calls_are, e) t))

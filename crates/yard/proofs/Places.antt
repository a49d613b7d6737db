-- What the places for calls are read as after each write. Assumes nothing.
use mathlib.Core.Path.{◌≡◌, refl, sym, ap, ◌∙◌}
use mathlib.Core.Bool.{true, not}
use mathlib.Core.List.{List}
use mathlib.Core.Option.{Option, none, some}
use Prim.Native.Nat.{ℕ, ◌+◌, ◌≤◌, ◌<◌}
use native.Mathlib.Omega.{arith}
use lib.Dec.{eqb, ltb, lit<, lit≤}
use lib.ListN.{length, get_or, replicate, length-replicate, get_or-replicate}
use borrow.Author.Tests.{ltb-true, ltb-false}
use Rattle.bits.specs.Field.{pick}
use Rattle.arrays.specs.Runs.{stored}
use Rattle.arrays.proofs.Running.{length-stored, stored-before, stored-after, stored_in}
use Rattle.receiver.specs.declared.Told.{Told}
use Rattle.receiver.specs.Step.{most_entries}
use Rattle.receiver.proofs.Cases.{by-test}
use Rattle.layout.specs.Octets.{le_at, octet_at, flag_at}
use Rattle.layout.specs.Layout.{told_at, tick_from, record_size, told_place, told_length, record_at, carries}
use Rattle.layout.proofs.Numbers.{le_ext}
use Rattle.yard.specs.Yard.{Shown, call_count}
use Rattle.yard.specs.Octets.{call_length, yard_length, call_place, call_no, cut, put_call}
use Rattle.yard.proofs.Copying.{length_cut, cut_at}

-- ## The same octets at two places are the same record

module _ (l l' : List ℕ) (at at' : ℕ) (e : (n : ℕ) → n < record_size → get_or l' (at + n) 0 ≡ get_or l (at' + n) 0) where
  flag-moved : (n : ℕ) → n < record_size → flag_at l' (at + n) ≡ flag_at l (at' + n)
  flag-moved n h = ap (λ (x : ℕ). not (eqb x 0)) (e n h)

  le_moved : (w n : ℕ) → n + w ≤ record_size → le_at w l' (at + n) ≡ le_at w l (at' + n)
  le_moved w n h =
      le_ext w l' l (at + n) (at' + n)
      (λ m x.
      let p : at + n + m ≡ at + (n + m) = omega arith in
      let q : at' + n + m ≡ at' + (n + m) = omega arith in
      ap (λ (k : ℕ). get_or l' k 0) p ∙ e (n + m) (omega arith) ∙ sym (ap (λ (k : ℕ). get_or l k 0) q))

  reference-moved : le_at 4 l' at ≡ le_at 4 l at'
  reference-moved = le_ext 4 l' l at at' (λ m x. e m (omega arith))

  pub record_moved : record_at l' at ≡ record_at l at'
  unfolding record_at
  record_moved = λ i.
      record {
        full = flag-moved 24 (lit< tt) i;
        call =
            record {
              reference = reference-moved i;
              vgcs = flag-moved 25 (lit< tt) i;
              acknowledged = flag-moved 26 (lit< tt) i;
              priority = e 44 (lit< tt) i;
              cipher = e 45 (lit< tt) i;
              hasDescription = flag-moved 27 (lit< tt) i;
              description =
                  record {
                    channel = le_moved 4 4 (lit≤ tt) i;
                    hopping = flag-moved 28 (lit< tt) i;
                    shortlist = flag-moved 29 (lit< tt) i;
                    length = e 46 (lit< tt) i;
                    frequencies = le_moved 8 8 (lit≤ tt) i;
                  };
            };
        hasSegment = flag-moved 30 (lit< tt) i;
        segment = flag-moved 31 (lit< tt) i;
        hasRandom = flag-moved 32 (lit< tt) i;
        rand = le_moved 8 16 (lit≤ tt) i;
        emergency = flag-moved 33 (lit< tt) i;
        common =
            record {
              hasCount = flag-moved 34 (lit< tt) i;
              cellcount = e 47 (lit< tt) i;
              b22 = flag-moved 35 (lit< tt) i;
              hasUplink = flag-moved 36 (lit< tt) i;
              uplink = flag-moved 37 (lit< tt) i;
              hasAmr = flag-moved 38 (lit< tt) i;
              hasFullrate = flag-moved 39 (lit< tt) i;
              fullrate = e 48 (lit< tt) i;
              hasHalfrate = flag-moved 40 (lit< tt) i;
              halfrate = e 49 (lit< tt) i;
              hasSms = flag-moved 41 (lit< tt) i;
              confidential = flag-moved 42 (lit< tt) i;
              private = flag-moved 43 (lit< tt) i;
            };
      }

-- and the same entry
module _ (l l' : List ℕ) (p q : ℕ) (e : (n : ℕ) → n < told_length → get_or l' (p + n) 0 ≡ get_or l (q + n) 0) where
  later : (n : ℕ) → n < record_size → get_or l' (p + 16 + n) 0 ≡ get_or l (q + 16 + n) 0
  later n h =
      let a : p + 16 + n ≡ p + (16 + n) = omega arith in
      let b : q + 16 + n ≡ q + (16 + n) = omega arith in
      ap (λ (k : ℕ). get_or l' k 0) a ∙ e (16 + n) (omega arith) ∙ sym (ap (λ (k : ℕ). get_or l k 0) b)

  pub told_moved : told_at l' p ≡ told_at l q
  unfolding told_at
  told_moved = λ i.
      record {
        key = le_ext 8 l' l p q (λ m x. e m (omega arith)) i;
        number = e 8 (lit< tt) i;
        «record» = record_moved l l' (p + 16) (q + 16) later i;
        follow = e 9 (lit< tt) i;
        kept = e 10 (lit< tt) i;
      }

-- ## A place

abbrev call_by : ℕ → ℕ → Told → Option Shown
call_by n since t = pick (carries n) (some (record { since = since; told = t })) none

call_as : (l : List ℕ) (i n since : ℕ) (t : Told) → octet_at l (call_place i + 16) ≡ n → le_at 4 l (call_place i) ≡ since → told_at l (call_place i + 8) ≡ t → call_no l i ≡ call_by n since t
unfolding call_no
call_as l i n since t p q r = λ x. call_by (p x) (q x) (r x)

call-is : (l : List ℕ) (i : ℕ) → call_no l i ≡ call_by (octet_at l (call_place i + 16)) (le_at 4 l (call_place i)) (told_at l (call_place i + 8))
unfolding call_no
call-is l i = refl

-- the same octets
pub call_same : (l l' : List ℕ) (i : ℕ) → ((n : ℕ) → n < call_length → get_or l' (call_place i + n) 0 ≡ get_or l (call_place i + n) 0) → call_no l' i ≡ call_no l i
call_same l l' i e =
    call_as l' i (octet_at l (call_place i + 16)) (le_at 4 l (call_place i)) (told_at l (call_place i + 8)) (e 16 (lit< tt))
    (le_ext 4 l' l (call_place i) (call_place i) (λ m x. e m (omega arith)))
    (told_moved l l' (call_place i + 8) (call_place i + 8)
    (λ n h.
    let a : call_place i + 8 + n ≡ call_place i + (8 + n) = omega arith in
    ap (λ (k : ℕ). get_or l' k 0) a ∙ e (8 + n) (omega arith) ∙ sym (ap (λ (k : ℕ). get_or l k 0) a)))
    ∙ sym (call-is l i)

-- octets outside a run
outside : (l : List ℕ) (at : ℕ) (vs : List ℕ) (n j : ℕ) → length vs ≡ n → (at ≤ j → at + n ≤ j) → get_or (stored l at vs) j 0 ≡ get_or l j 0
outside l at vs n j e h =
    by-test (ltb j at) (λ p. stored-before l at vs j (ltb-true j at p)) (λ p. stored-after l at vs j (omega (arith, h (ltb-false j at p), e)))

zero-run : length {A = ℕ} (replicate call_length 0) ≡ call_length
zero-run = length-replicate {A = ℕ} call_length 0

-- places do not overlap
apart : (k i : ℕ) → (k ≡ i → ⊥) → i ≤ k → i < k
apart k i z h = by-test (ltb i k) (λ p. ltb-true i k p) (λ p. absurd (z (omega (arith, ltb-false i k p))))

elsewhere : (k i n : ℕ) → (k ≡ i → ⊥) → n < call_length → call_place i ≤ call_place k + n → call_place i + call_length ≤ call_place k + n
elsewhere k i n z h q = by-test (ltb k i) (λ p. omega (arith, ltb-true k i p)) (λ p. omega (arith, apart k i z (ltb-false k i p)))

-- ## A call leaves

pub call_none : (l : List ℕ) (i : ℕ) → octet_at l (call_place i + 16) ≡ 0 → call_no l i ≡ none
call_none l i z = call_as l i 0 (le_at 4 l (call_place i)) (told_at l (call_place i + 8)) z refl refl

pub call-gone : (l : List ℕ) (i : ℕ) → length l ≡ yard_length → i < call_count → call_no (stored l (call_place i) (replicate call_length 0)) i ≡ none
call-gone l i w h =
    let z : octet_at (stored l (call_place i) (replicate call_length 0)) (call_place i + 16) ≡ 0 =
    stored_in l (call_place i) (replicate call_length 0) 16 (omega (arith, zero-run)) (omega (arith, zero-run)) ∙ get_or-replicate call_length 16 0 0 (lit< tt) in
    call_none (stored l (call_place i) (replicate call_length 0)) i z

pub call_else : (l : List ℕ) (i k : ℕ) → (k ≡ i → ⊥) → call_no (stored l (call_place i) (replicate call_length 0)) k ≡ call_no l k
call_else l i k z =
    call_same l (stored l (call_place i) (replicate call_length 0)) k
    (λ n h. outside l (call_place i) (replicate call_length 0) call_length (call_place k + n) zero-run (elsewhere k i n z h))

-- ## A call comes

module _ (l : List ℕ) (i j : ℕ) (w : length l ≡ yard_length) (h : i < call_count) (k : j < most_entries) where
  abbrev first : List ℕ
  first = stored l (call_place i) (cut l tick_from 4)

  length-first : length first ≡ yard_length
  length-first = length-stored l (call_place i) (cut l tick_from 4) ∙ w

  four : length (cut l tick_from 4) ≡ 4
  four = length_cut l tick_from 4 (omega arith)

  entry : length (cut l (told_place j) told_length) ≡ told_length
  entry = length_cut l (told_place j) told_length (omega arith)

  put_told : (n : ℕ) → n < told_length → get_or (put_call l i j) (call_place i + 8 + n) 0 ≡ get_or l (told_place j + n) 0
  unfolding put_call
  put_told n lt =
      stored_in first (call_place i + 8) (cut l (told_place j) told_length) n (omega (arith, length-first, entry)) (omega (arith, entry)) ∙ cut_at l (told_place j) told_length n lt

  put_since : (n : ℕ) → n < 4 → get_or (put_call l i j) (call_place i + n) 0 ≡ get_or l (tick_from + n) 0
  unfolding put_call
  put_since n lt =
      stored-before first (call_place i + 8) (cut l (told_place j) told_length) (call_place i + n) (omega arith)
      ∙ stored_in l (call_place i) (cut l tick_from 4) n (omega (arith, four)) (omega (arith, four))
      ∙ cut_at l tick_from 4 n lt

  pub call_put : carries (octet_at l (told_place j + 8)) ≡ true → call_no (put_call l i j) i ≡ some (record { since = le_at 4 l tick_from; told = told_at l (told_place j) })
  call_put c =
      let a : call_place i + 8 + 8 ≡ call_place i + 16 = omega arith in
      call_as (put_call l i j) i (octet_at l (told_place j + 8)) (le_at 4 l tick_from) (told_at l (told_place j))
      (ap (λ (x : ℕ). get_or (put_call l i j) x 0) (sym a) ∙ put_told 8 (lit< tt)) (le_ext 4 (put_call l i j) l (call_place i) tick_from put_since)
      (told_moved l (put_call l i j) (call_place i + 8) (told_place j) put_told)
      ∙ rw c

  pub call_kept : (m : ℕ) → (m ≡ i → ⊥) → call_no (put_call l i j) m ≡ call_no l m
  unfolding put_call
  call_kept m z =
      call_same l (put_call l i j) m
      (λ n lt.
      outside first (call_place i + 8) (cut l (told_place j) told_length) told_length (call_place m + n) entry (λ q. omega (arith, elsewhere m i n z lt (omega arith)))
      ∙ outside l (call_place i) (cut l tick_from 4) 4 (call_place m + n) four (λ q. omega (arith, elsewhere m i n z lt q)))

pub length-call : (l : List ℕ) (i j : ℕ) → length (put_call l i j) ≡ length l
unfolding put_call
length-call l i j =
    length-stored (stored l (call_place i) (cut l tick_from 4)) (call_place i + 8) (cut l (told_place j) told_length) ∙ length-stored l (call_place i) (cut l tick_from 4)

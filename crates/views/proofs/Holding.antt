-- The halves held, place by place: what a pass over the places gathers. Assumes nothing.
use mathlib.Core.Path.{◌≡◌, refl, sym, ap, ◌∙◌}
use mathlib.Core.Bool.{Bool, true, false, not}
use mathlib.Core.List.{List, [], ◌∷◌, map}
use Prim.Native.Nat.{ℕ, zero, suc, ◌+◌, ◌-◌, ◌≤◌, ◌<◌}
use native.Mathlib.Nat.{zero-add}
use native.Mathlib.Omega.{arith}
use lib.Dec.{eqb}
use lib.ListN.{length, get_or}
use borrow.Author.Tests.{eqb-true, eqb-false, not-true}
use Rattle.bits.specs.Field.{pick}
use Rattle.csn1.specs.Told.{as_bit}
use Rattle.receiver.specs.declared.Record.{Record}
use Rattle.receiver.specs.declared.Receiver.{Receiver}
use Rattle.receiver.specs.declared.Slot.{Slot}
use Rattle.receiver.specs.Channels.{key_count, places, side_of, index_in}
use Rattle.receiver.specs.Model.{wrap_sub, is_held}
use Rattle.receiver.proofs.Cases.{by-test}
use Rattle.layout.specs.Octets.{le_at, octet_at, tabulate}
use Rattle.layout.specs.Layout.{tick_from, record_at, kind_place, since_place, record_place, slot_no, key_no, decode_of}
use Rattle.layout.specs.Sweep.{timer_no}
use Rattle.layout.specs.Parts.{record_numbers}
use Rattle.layout.proofs.Numbers.{get_d_table}
use Rattle.layout.proofs.Decoding.{slot-empty, slot_held}
use Rattle.views.specs.Held.{held_from, held_list, left_of, sooner, least_of, least_left, held_numbers, numbers_no}

-- ## A place

module _ (l : List ℕ) (i : ℕ) where
  -- a half is held where the kind is not 0
  pub held-kind : not (eqb (octet_at l (kind_place i)) 0) ≡ is_held (slot_no l i)
  held-kind =
      by-test (eqb (octet_at l (kind_place i)) 0)
      (λ p. rw (slot-empty l i (eqb-true _ _ p), p))
      (λ p. rw (slot_held l i (eqb-false _ _ p), p))

  module _ (h : is_held (slot_no l i) ≡ true) where
    kind-held : octet_at l (kind_place i) ≡ 0 → ⊥
    kind-held = eqb-false _ _ (not-true _ (held-kind ∙ h))

    pub left-held : timer_no l i - wrap_sub (le_at 4 l tick_from) (le_at 4 l (since_place i)) ≡ left_of (decode_of l) (i, slot_no l i)
    unfolding decode_of
    left-held = rw (slot_held l i kind-held)

    key-of : (k : ℕ) → k < key_count → key_no l k ≡ get_or (decode_of l).keys k 0
    unfolding decode_of
    key-of k lt = sym (get_d_table (key_no l) 0 key_count k 0 lt ∙ ap (key_no l) (zero-add k))

    record_held : record_at l (record_place i) ≡ (slot_no l i).«record»
    record_held = sym (ap (λ (s : Slot). s.«record») (slot_held l i kind-held))

    half-held : octet_at l (kind_place i) ≡ (slot_no l i).half
    half-held = sym (ap (λ (s : Slot). s.half) (slot_held l i kind-held))

    -- its numbers, one by one
    pub numbers-held : i < places → (key channel half left : ℕ) (r : Record) (all : List ℕ)
        → key ≡ key_no l (index_in i)
        → channel ≡ side_of i
        → half ≡ octet_at l (kind_place i)
        → left ≡ timer_no l i - wrap_sub (le_at 4 l tick_from) (le_at 4 l (since_place i))
        → r ≡ record_at l (record_place i)
        → all ≡ key ∷ channel ∷ half ∷ left ∷ record_numbers r
        → all ≡ held_numbers (decode_of l) (i, slot_no l i)
    numbers-held lt key channel half left r all pk pc ph pl pr pa =
        let k : key ≡ get_or (decode_of l).keys (index_in i) 0 = pk ∙ key-of (index_in i) (omega arith) in
        let x : half ≡ (slot_no l i).half = ph ∙ half-held in
        let y : left ≡ left_of (decode_of l) (i, slot_no l i) = pl ∙ left-held in
        let z : r ≡ (slot_no l i).«record» = pr ∙ record_held in
        pa ∙ (λ j. k j ∷ pc j ∷ x j ∷ y j ∷ record_numbers (z j))

-- ## The places from one on

abbrev pub rest : List ℕ → ℕ → List (ℕ × Slot)
rest l i = held_from i (tabulate (slot_no l) i (places - i))

module _ (l : List ℕ) (i : ℕ) where
  rest-suc : i < places → rest l i ≡ pick (is_held (slot_no l i)) ((i, slot_no l i) ∷ rest l (suc i)) (rest l (suc i))
  unfolding tabulate
  rest-suc h = let e : places - i ≡ suc (places - suc i) = omega arith in ap (λ (n : ℕ). held_from i (tabulate (slot_no l) i n)) e

  rest-next : i < places → rest l i ≡ pick (is_held (slot_no l i)) ((i, slot_no l i) ∷ rest l (i + 1)) (rest l (i + 1))
  rest-next h = let e : suc i ≡ i + 1 = omega arith in rest-suc h ∙ ap (λ (k : ℕ). pick (is_held (slot_no l i)) ((i, slot_no l i) ∷ rest l k) (rest l k)) e

  rest_end : places ≤ i → rest l i ≡ []
  unfolding tabulate
  rest_end h = let e : places - i ≡ 0 = omega arith in ap (λ (n : ℕ). held_from i (tabulate (slot_no l) i n)) e

pub rest_all : (l : List ℕ) → rest l 0 ≡ held_list (decode_of l)
unfolding held_list decode_of
rest_all l = refl

-- ## How many

count_by : {A : Type 0} (b : Bool) (a : A) (xs : List A) (n : ℕ) → n + length (pick b (a ∷ xs) xs) ≡ n + as_bit b + length xs
count_by true a xs n = omega arith
count_by false a xs n = omega arith

module _ (l : List ℕ) (n i : ℕ) where
  count_next : i < places → n + length (rest l i) ≡ n + as_bit (is_held (slot_no l i)) + length (rest l (i + 1))
  count_next h = ap (λ (x : List (ℕ × Slot)). n + length x) (rest-next l i h) ∙ count_by (is_held (slot_no l i)) (i, slot_no l i) (rest l (i + 1)) n

  -- m more, where the place is passed
  pub count-step : (m k : ℕ) → i < places → m ≡ as_bit (is_held (slot_no l i)) → n + length (rest l i) ≡ k → n + m + length (rest l (i + 1)) ≡ k
  count-step m k h e q = ap (λ (x : ℕ). n + x + length (rest l (i + 1))) e ∙ sym (count_next h) ∙ q

  pub count-end : places ≤ i → n + length (rest l i) ≡ n
  count-end h = ap (λ (x : List (ℕ × Slot)). n + length x) (rest_end l i h) ∙ omega arith

-- ## When the next one runs out

least_by : (r : Receiver) (b : Bool) (a : ℕ × Slot) (xs : List (ℕ × Slot)) (least : ℕ)
    → least_of least (map (left_of r) (pick b (a ∷ xs) xs)) ≡ least_of (pick b (sooner least (left_of r a)) least) (map (left_of r) xs)
least_by r true a xs least = refl
least_by r false a xs least = refl

module _ (l : List ℕ) (least i : ℕ) where
  pub least_next : i < places
      → least_of least (map (left_of (decode_of l)) (rest l i))
      ≡ least_of (pick (is_held (slot_no l i)) (sooner least (left_of (decode_of l) (i, slot_no l i))) least) (map (left_of (decode_of l)) (rest l (i + 1)))
  least_next h =
      ap (λ (x : List (ℕ × Slot)). least_of least (map (left_of (decode_of l)) x)) (rest-next l i h)
      ∙ least_by (decode_of l) (is_held (slot_no l i)) (i, slot_no l i) (rest l (i + 1)) least

  pub least_end : places ≤ i → least_of least (map (left_of (decode_of l)) (rest l i)) ≡ least
  least_end h = ap (λ (x : List (ℕ × Slot)). least_of least (map (left_of (decode_of l)) x)) (rest_end l i h)

pub least_all : (l : List ℕ) → least_of 4294967295 (map (left_of (decode_of l)) (rest l 0)) ≡ least_left (decode_of l)
unfolding least_left
least_all l = ap (λ (x : List (ℕ × Slot)). least_of 4294967295 (map (left_of (decode_of l)) x)) (rest_all l)

-- ## The n-th

-- the numbers of the n-th of some
abbrev pub numbers_in : List ℕ → List (ℕ × Slot) → ℕ → List ℕ
numbers_in l hs n = get_or (map (held_numbers (decode_of l)) hs) n []

pub nth-all : (l : List ℕ) (n : ℕ) → numbers_no (decode_of l) n ≡ numbers_in l (rest l 0) n
unfolding numbers_no
nth-all l n = ap (λ (x : List (ℕ × Slot)). numbers_in l x n) (sym (rest_all l))

nth-by : (l : List ℕ) (a : ℕ × Slot) (xs : List (ℕ × Slot)) (n : ℕ) → (n ≡ 0 → ⊥) → numbers_in l (a ∷ xs) n ≡ numbers_in l xs (n - 1)
nth-by l a xs zero z = absurd (z refl)
nth-by l a xs (suc n) z = let q : n ≡ suc n - 1 = omega arith in ap (numbers_in l xs) q

module _ (l : List ℕ) (i : ℕ) (h : i < places) where
  pub nth-found : is_held (slot_no l i) ≡ true → (n : ℕ) → n ≡ 0 → numbers_in l (rest l i) n ≡ held_numbers (decode_of l) (i, slot_no l i)
  nth-found q n e = rw (rest-next l i h, q, e)

  pub nth-next : is_held (slot_no l i) ≡ true → (n : ℕ) → (n ≡ 0 → ⊥) → numbers_in l (rest l i) n ≡ numbers_in l (rest l (i + 1)) (n - 1)
  nth-next q n z = rw (rest-next l i h, q) (nth-by l (i, slot_no l i) (rest l (i + 1)) n z)

  pub nth_past : is_held (slot_no l i) ≡ false → (n : ℕ) → numbers_in l (rest l i) n ≡ numbers_in l (rest l (i + 1)) n
  nth_past q n = rw (rest-next l i h, q)

pub nth_end : (l : List ℕ) (i n : ℕ) → places ≤ i → numbers_in l (rest l i) n ≡ []
nth_end l i n h = ap (λ (x : List (ℕ × Slot)). numbers_in l x n) (rest_end l i h)

-- What is shown: the calls counted and found by their places, and their numbers. Assumes nothing.
use mathlib.Core.Path.{◌≡◌, refl, sym, ap, ◌∙◌}
use mathlib.Core.Bool.{true, false, true≢false}
use mathlib.Core.List.{List, [], ◌∷◌, ◌++◌, map}
use mathlib.Core.Option.{Option, none, some}
use Prim.Native.Nat.{ℕ, zero, suc, ◌+◌, ◌-◌, ◌≤◌, ◌<◌}
use native.Mathlib.Nat.{zero-add}
use native.Mathlib.Numerals.{add-one}
use native.Mathlib.Omega.{arith}
use lib.Dec.{leb, ltb}
use lib.ListN.{length, take, drop, get_or, set, drop_of_length-le, get_or-append, get_or-eq_default}
use lib.Seq.{drop-cons, get_or-append-add}
use borrow.Author.Tests.{eq-eqb, ne_eqb, ltb-true, ltb-false, le-leb}
use Rattle.bits.specs.Field.{pick}
use Rattle.csn1.specs.Told.{as_bit, padded}
use Rattle.csn1.proofs.Lists.{length-padded}
use Rattle.arrays.proofs.Filling.{copied_next, copied}
use Rattle.receiver.specs.Model.{wrap_sub}
use Rattle.receiver.proofs.Cases.{by-test}
use Rattle.layout.specs.Octets.{le_at, octet_at}
use Rattle.layout.specs.Layout.{told_at, told_length, tick_from, carries, decode_of}
use Rattle.layout.specs.Parts.{told_numbers}
use Rattle.layout.proofs.Numbers.{length-table, get_d_table}
use Rattle.yard.specs.Yard.{Shown, call_count, called_at, called_from, called_in, called_numbers, called_no}
use Rattle.yard.specs.Octets.{yard_length, is_yard, inside, call_place, call_no, yard_of}
use Rattle.yard.specs.Inner.{is_shown, numbers_of}
use Rattle.yard.proofs.Values.{calls_in, tick-inside}

-- ## A place

module _ (l : List ℕ) (i : ℕ) where
  pub shown-carries : is_shown (call_no l i) ≡ carries (octet_at l (call_place i + 16))
  unfolding call_no
  shown-carries = by-test (carries (octet_at l (call_place i + 16))) (λ p. rw p) (λ p. rw p)

-- the calls from a place on
abbrev pub rest : List ℕ → ℕ → List (Option Shown)
rest l i = drop i (calls_in l)

module _ (l : List ℕ) (i : ℕ) (h : i < call_count) where
  pub rest-cons : rest l i ≡ call_no l i ∷ rest l (i + 1)
  rest-cons =
      drop-cons (calls_in l) i none (omega (arith, length-table (call_no l) 0 call_count))
      ∙ (λ x. (get_d_table (call_no l) 0 call_count i none h ∙ ap (call_no l) (zero-add i)) x ∷ drop (sym (add-one i) x) (calls_in l))

pub rest-none : (l : List ℕ) (i : ℕ) → call_count ≤ i → rest l i ≡ []
rest-none l i h = drop_of_length-le (calls_in l) {i = i} (omega (arith, length-table (call_no l) 0 call_count))

-- ## How many

abbrev now : List ℕ → ℕ
now l = (decode_of (inside l)).tick

abbrev pub shown : List ℕ → ℕ → ℕ
shown l i = length (called_from (now l) (rest l i))

more : (t : ℕ) (c : Option Shown) (cs : List (Option Shown)) → length (called_from t (c ∷ cs)) ≡ as_bit (is_shown c) + length (called_from t cs)
more t none cs = sym (zero-add _)
more t (some s) cs = omega arith

pub count-step : (l : List ℕ) (n i b : ℕ) → i < call_count → b ≡ as_bit (is_shown (call_no l i)) → n + shown l i ≡ shown l 0 → n + b + shown l (i + 1) ≡ shown l 0
count-step l n i b h e q =
    let p : shown l i ≡ as_bit (is_shown (call_no l i)) + shown l (i + 1) =
    ap (λ (cs : List (Option Shown)). length (called_from (now l) cs)) (rest-cons l i h) ∙ more (now l) (call_no l i) (rest l (i + 1))
    in
    omega (arith, p, e, q)

pub count-end : (l : List ℕ) (n i : ℕ) → call_count ≤ i → n + shown l i ≡ shown l 0 → n ≡ length (called_in (yard_of l))
unfolding called_in yard_of
count-end l n i h q =
    let p : shown l i ≡ 0 = ap (λ (cs : List (Option Shown)). length (called_from (now l) cs)) (rest-none l i h) in
    omega (arith, p, q)

pub not_yard : {A : Type 0} (l : List ℕ) (a b : A) → (length l ≡ yard_length → ⊥) → b ≡ pick (is_yard l) a b
not_yard l a b z = rw (ne_eqb (length l) yard_length z)

pub at-yard : {A : Type 0} (l : List ℕ) (a b : A) → length l ≡ yard_length → a ≡ pick (is_yard l) a b
at-yard l a b w = rw (eq-eqb (length l) yard_length w)

-- ## Which

-- the numbers of the n-th of some
abbrev pub numbers_in : List ℕ → List (Option Shown) → ℕ → List ℕ
numbers_in l cs n = get_or (map called_numbers (called_from (now l) cs)) n []

pub nth-all : (l : List ℕ) (n : ℕ) → called_no (yard_of l) n ≡ numbers_in l (rest l 0) n
unfolding called_no called_in yard_of
nth-all l n = refl

-- a call has the numbers of its place
Says : ℕ → Option Shown → List ℕ → Type 0
Says t none ns = Unit {0}
Says t (some s) ns = called_numbers (called_at t s) ≡ ns

says-call : (l : List ℕ) (i : ℕ) → Says (now l) (call_no l i) (numbers_of l i)
unfolding call_no numbers_of Says decode_of
says-call l i = by-test (carries (octet_at l (call_place i + 16))) (λ p. rw (p, ← tick-inside l) refl) (λ p. rw p tt)

-- c is the first of them
first_found : (l : List ℕ) (c : Option Shown) (cs : List (Option Shown)) (ns : List ℕ) → Says (now l) c ns → is_shown c ≡ true → (n : ℕ) → n ≡ 0 → numbers_in l (c ∷ cs) n ≡ ns
unfolding Says
first_found l none cs ns w p n z = absurd (true≢false (sym p))
first_found l (some s) cs ns w p n z = rw z w

first_next : (l : List ℕ) (c : Option Shown) (cs : List (Option Shown)) → is_shown c ≡ true → (n : ℕ) → (n ≡ 0 → ⊥) → numbers_in l (c ∷ cs) n ≡ numbers_in l cs (n - 1)
first_next l none cs p n z = absurd (true≢false (sym p))
first_next l (some s) cs p zero z = absurd (z refl)
first_next l (some s) cs p (suc n) z = let a : n ≡ suc n - 1 = omega arith in ap (numbers_in l cs) a

first_past : (l : List ℕ) (c : Option Shown) (cs : List (Option Shown)) → is_shown c ≡ false → (n : ℕ) → numbers_in l (c ∷ cs) n ≡ numbers_in l cs n
first_past l none cs p n = refl
first_past l (some s) cs p n = absurd (true≢false p)

module _ (l : List ℕ) (i : ℕ) (h : i < call_count) where
  pub nth-found : is_shown (call_no l i) ≡ true → (n : ℕ) → n ≡ 0 → numbers_in l (rest l i) n ≡ numbers_of l i
  nth-found p n z = ap (λ (cs : List (Option Shown)). numbers_in l cs n) (rest-cons l i h) ∙ first_found l (call_no l i) (rest l (i + 1)) (numbers_of l i) (says-call l i) p n z

  pub nth-next : is_shown (call_no l i) ≡ true → (n : ℕ) → (n ≡ 0 → ⊥) → numbers_in l (rest l i) n ≡ numbers_in l (rest l (i + 1)) (n - 1)
  nth-next p n z = ap (λ (cs : List (Option Shown)). numbers_in l cs n) (rest-cons l i h) ∙ first_next l (call_no l i) (rest l (i + 1)) p n z

  pub nth_past : is_shown (call_no l i) ≡ false → (n : ℕ) → numbers_in l (rest l i) n ≡ numbers_in l (rest l (i + 1)) n
  nth_past p n = ap (λ (cs : List (Option Shown)). numbers_in l cs n) (rest-cons l i h) ∙ first_past l (call_no l i) (rest l (i + 1)) p n

pub nth_end : (l : List ℕ) (i n : ℕ) → call_count ≤ i → numbers_in l (rest l i) n ≡ []
nth_end l i n h = ap (λ (cs : List (Option Shown)). numbers_in l cs n) (rest-none l i h)

-- ## One number

beyond : (part : ℕ) → 34 ≤ part → (part ≡ 34 → ⊥) → 35 ≤ part
beyond part h z = by-test (ltb 34 part) (λ p. omega (arith, ltb-true 34 part p)) (λ p. absurd (z (omega (arith, ltb-false 34 part p))))

module _ (l : List ℕ) (i : ℕ) where
  abbrev told : List ℕ
  told = told_numbers (told_at l (call_place i + 8))

  abbrev age : ℕ
  age = wrap_sub (le_at 4 l tick_from) (le_at 4 l (call_place i))

  -- the octets do not end before it
  pub told_there : (part : ℕ) → length l ≡ yard_length → i < call_count
      → pick (leb (call_place i + 8 + told_length) (length l)) (get_or told part 0) 0 ≡ get_or told part 0
  told_there part w h = rw (le-leb (call_place i + 8 + told_length) (length l) (omega arith))

  pub number-told : (part : ℕ) → part < 34 → get_or told part 0 ≡ get_or (numbers_of l i) part 0
  unfolding numbers_of
  number-told part h = sym (get_or-append told (age ∷ []) 0 part h)

  pub number-age : (part : ℕ) → part ≡ 34 → age ≡ get_or (numbers_of l i) part 0
  unfolding numbers_of
  number-age part h = rw h (sym (get_or-append-add told (age ∷ []) 0 0))

  pub number-none : (part : ℕ) → 34 ≤ part → (part ≡ 34 → ⊥) → 0 ≡ get_or (numbers_of l i) part 0
  unfolding numbers_of
  number-none part h z = sym (get_or-eq_default (told ++ (age ∷ [])) 0 (beyond part h z))

-- ## Into an array

padded-at : (n : ℕ) (l : List ℕ) (k : ℕ) → k < n → get_or (padded 0 n l) k 0 ≡ get_or l k 0
padded-at zero l k h = absurd (omega arith)
padded-at (suc n) [] zero h = refl
padded-at (suc n) [] (suc k) h = padded-at n [] k (omega arith)
padded-at (suc n) (a ∷ l) zero h = refl
padded-at (suc n) (a ∷ l) (suc k) h = padded-at n l k (omega arith)

pub put_next : (n : ℕ) (l o : List ℕ) (k v : ℕ) → length o ≡ n → k < n → v ≡ get_or l k 0 → take k o ≡ take k (padded 0 n l) → take (k + 1) (set o k v) ≡ take (k + 1) (padded 0 n l)
put_next n l o k v w h e q =
    ap (λ (x : ℕ). take (k + 1) (set o k x)) (e ∙ sym (padded-at n l k h))
    ∙ copied_next (padded 0 n l) o k q (omega (arith, w)) (omega (arith, length-padded 0 n l))

pub put_all : (n : ℕ) (l o : List ℕ) (k : ℕ) → length o ≡ n → n ≤ k → take k o ≡ take k (padded 0 n l) → o ≡ padded 0 n l
put_all n l o k w h q = copied (padded 0 n l) o k q (omega (arith, w)) (omega (arith, length-padded 0 n l))

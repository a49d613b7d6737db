-- What the octets are read as when the calls are settled: what the yard set by value says. Assumes nothing.
use mathlib.Core.Path.{◌≡◌, refl, sym, ap, ap₂, ◌∙◌}
use mathlib.Core.Bool.{Bool, true, false}
use mathlib.Core.List.{List, [], ◌∷◌, ◌++◌, map}
use mathlib.Core.Option.{Option, some}
use Prim.Native.Nat.{ℕ, zero, suc, ◌+◌, ◌≤◌, ◌<◌}
use native.Mathlib.Nat.{zero-add}
use native.Mathlib.Omega.{arith}
use lib.Dec.{ltb}
use lib.ListN.{length, take, set, replicate}
use lib.Seq.{take-suc, take_all, set_out}
use borrow.Author.Tests.{ltb-true, ltb-false}
use Rattle.bits.specs.Field.{pick}
use Rattle.csn1.specs.Told.{as_bit}
use Rattle.arrays.specs.Runs.{stored}
use Rattle.arrays.proofs.Running.{length-stored}
use Rattle.receiver.specs.declared.Told.{Told}
use Rattle.receiver.specs.Model.{index_of}
use Rattle.receiver.specs.Step.{most_entries, no_told}
use Rattle.receiver.proofs.Cases.{by-test}
use Rattle.layout.specs.Octets.{le_at, octet_at, tabulate}
use Rattle.layout.specs.Layout.{told_at, tick_from, answer_from, told_place, told_length, carries, told_no, keys_in, last_of}
use Rattle.layout.proofs.Numbers.{le_ext, length-table, get_d_table, table_ext, table-set}
use Rattle.layout.proofs.AllParts.{nine-entries}
use Rattle.yard.specs.Yard.{Shown, call_count, leaves, left_call, brought_in, all_in}
use Rattle.yard.specs.Octets.{call_length, yard_length, call_place, inside, call_no, left_at, left_run, cut, put_call, entry_no, place_for, brought_at, brought_run, settled}
use Rattle.yard.proofs.Inside.{inside-at, inside-stored}
use Rattle.yard.proofs.Places.{told_moved, call-gone, call_else, call_put, call_kept, length-call}

-- the calls that octets are read as
abbrev pub calls_in : List ℕ → List (Option Shown)
calls_in l = tabulate (call_no l) 0 call_count

map-table : {A B : Type 0} (f : A → B) (g : ℕ → A) (k n : ℕ) → map f (tabulate g k n) ≡ tabulate (λ i. f (g i)) k n
unfolding tabulate
map-table f g k zero = refl
map-table f g k (suc n) = ap (λ l. f (g k) ∷ l) (map-table f g (suc k) n)

-- ## Calls leave

module _ (all : Bool) (now : ℕ) where
  left-own : (l : List ℕ) (i : ℕ) → length l ≡ yard_length → i < call_count → call_no (left_at all now l i) i ≡ left_call all now (call_no l i)
  unfolding left_at left_call
  left-own l i w h = by-test (leaves all now (call_no l i)) (λ p. rw p (call-gone l i w h)) (λ p. rw p)

  left_other : (l : List ℕ) (i k : ℕ) → (k ≡ i → ⊥) → call_no (left_at all now l i) k ≡ call_no l k
  unfolding left_at
  left_other l i k z = by-test (leaves all now (call_no l i)) (λ p. rw p (call_else l i k z)) (λ p. rw p)

  length-left : (l : List ℕ) (i : ℕ) → length (left_at all now l i) ≡ length l
  unfolding left_at
  length-left l i = by-test (leaves all now (call_no l i)) (λ p. rw p (length-stored l (call_place i) (replicate call_length 0))) (λ p. rw p)

  inside-left : (l : List ℕ) (i : ℕ) → inside (left_at all now l i) ≡ inside l
  unfolding left_at
  inside-left l i = by-test (leaves all now (call_no l i)) (λ p. rw p (inside-stored l (call_place i) (replicate call_length 0) (omega arith))) (λ p. rw p)

  pub length-left_run : (n : ℕ) (l : List ℕ) → length (left_run all now n l) ≡ length l
  unfolding left_run
  length-left_run zero l = refl
  length-left_run (suc n) l = length-left (left_run all now n l) n ∙ length-left_run n l

  pub inside-left_run : (n : ℕ) (l : List ℕ) → inside (left_run all now n l) ≡ inside l
  unfolding left_run
  inside-left_run zero l = refl
  inside-left_run (suc n) l = inside-left (left_run all now n l) n ∙ inside-left_run n l

  -- a place that was not come to yet, and one that was
  left-later : (n : ℕ) (l : List ℕ) (k : ℕ) → n ≤ k → call_no (left_run all now n l) k ≡ call_no l k
  unfolding left_run
  left-later zero l k h = refl
  left-later (suc n) l k h = left_other (left_run all now n l) n k (λ q. omega arith) ∙ left-later n l k (omega arith)

  left-done : (n : ℕ) (l : List ℕ) → length l ≡ yard_length → n ≤ call_count → (k : ℕ) → k < n → call_no (left_run all now n l) k ≡ left_call all now (call_no l k)
  unfolding left_run
  left-done zero l w h k lt = absurd (omega arith)
  left-done (suc n) l w h k lt =
      by-test (ltb k n)
      (λ p. left_other (left_run all now n l) n k (λ q. omega (arith, ltb-true k n p)) ∙ left-done n l w (omega arith) k (ltb-true k n p))
      (λ p.
      let q : k ≡ n = omega (arith, ltb-false k n p) in
      ap (call_no (left_at all now (left_run all now n l) n)) q
      ∙ left-own (left_run all now n l) n (length-left_run n l ∙ w) (omega arith)
      ∙ ap (left_call all now) (left-later n l n (omega arith) ∙ ap (call_no l) (sym q)))

  pub calls-left : (l : List ℕ) → length l ≡ yard_length → calls_in (left_run all now call_count l) ≡ map (left_call all now) (calls_in l)
  calls-left l w =
      table_ext (call_no (left_run all now call_count l)) (λ k. left_call all now (call_no l k)) 0 call_count
      (λ k a b. left-done call_count l w (omega arith) k (omega arith))
      ∙ sym (map-table (left_call all now) (call_no l) 0 call_count)

-- ## An entry with its record

module _ (r : List ℕ) (j : ℕ) (h : j < most_entries) where
  entry_at : entry_no r j ≡ pick (ltb j (le_at 4 r (answer_from + 8))) (told_no r j) no_told
  unfolding last_of
  entry_at =
      get_d_table (λ j. pick (ltb j (le_at 4 r (answer_from + 8))) (told_no r j) no_told) 0 most_entries j no_told h
      ∙ ap (λ (j : ℕ). pick (ltb j (le_at 4 r (answer_from + 8))) (told_no r j) no_told) (zero-add j)

  entry-there : carries (entry_no r j).number ≡ true → entry_no r j ≡ told_no r j
  entry-there c =
      by-test (ltb j (le_at 4 r (answer_from + 8)))
      (λ p. entry_at ∙ rw p)
      (λ p.
      let q : entry_no r j ≡ no_told = entry_at ∙ rw p in
      let z : false ≡ true = ap (λ (t : Told). carries t.number) (sym q) ∙ c in
      absurd (omega (arith, ap (λ (b : Bool). as_bit b) z)))

  told_number-is : (told_no r j).number ≡ octet_at r (told_place j + 8)
  unfolding told_no
  told_number-is = refl

  told-carried : carries (octet_at r (told_place j + 8)) ≡ true → told_no r j ≡ told_at r (told_place j)
  unfolding told_no told_at
  told-carried c = rw c

  pub octet-carries : carries (entry_no r j).number ≡ true → carries (octet_at r (told_place j + 8)) ≡ true
  octet-carries c = ap (λ (n : ℕ). carries n) (sym (ap (λ (t : Told). t.number) (entry-there c) ∙ told_number-is)) ∙ c

  pub entry-carried : carries (entry_no r j).number ≡ true → entry_no r j ≡ told_at r (told_place j)
  entry-carried c = entry-there c ∙ told-carried (octet-carries c)

-- ## Calls come

pub tick-inside : (l : List ℕ) → le_at 4 l tick_from ≡ le_at 4 (inside l) tick_from
tick-inside l = le_ext 4 l (inside l) tick_from tick_from (λ n lt. sym (inside-at l (tick_from + n) (omega arith)))

module _ (l : List ℕ) (j : ℕ) (w : length l ≡ yard_length) (h : j < most_entries) where
  told-inside : told_at l (told_place j) ≡ told_at (inside l) (told_place j)
  told-inside = told_moved (inside l) l (told_place j) (told_place j) (λ n lt. sym (inside-at l (told_place j + n) (omega arith)))

  octet-inside : octet_at l (told_place j + 8) ≡ octet_at (inside l) (told_place j + 8)
  octet-inside = sym (inside-at l (told_place j + 8) (omega arith))

  placed : (i : ℕ) → i < call_count → carries (entry_no (inside l) j).number ≡ true
      → calls_in (put_call l i j) ≡ set (calls_in l) i (some (record { since = le_at 4 (inside l) tick_from; told = entry_no (inside l) j }))
  placed i lt c =
      table-set (call_no (put_call l i j)) (call_no l) 0 call_count i lt (λ m a b z. call_kept l i j w lt h m (λ q. z (q ∙ sym (zero-add i))))
      ∙ ap (set (calls_in l) i)
      (ap (call_no (put_call l i j)) (zero-add i)
      ∙ call_put l i j w lt h (ap (λ (n : ℕ). carries n) octet-inside ∙ octet-carries (inside l) j h c)
      ∙ ap₂ (λ (s : ℕ) (t : Told). some (record { since = s; told = t })) (tick-inside l) (told-inside ∙ sym (entry-carried (inside l) j h c)))

  calls-brought : calls_in (brought_at l j) ≡ brought_in (keys_in (inside l)) (le_at 4 (inside l) tick_from) (calls_in l) (entry_no (inside l) j)
  unfolding brought_at brought_in place_for
  calls-brought =
      by-test (carries (entry_no (inside l) j).number)
      (λ c.
      by-test (ltb (index_of (keys_in (inside l)) (entry_no (inside l) j).key) call_count)
      (λ p. rw (c, p) (placed (index_of (keys_in (inside l)) (entry_no (inside l) j).key) (ltb-true _ _ p) c))
      (λ p.
      let far : call_count ≤ index_of (keys_in (inside l)) (entry_no (inside l) j).key = ltb-false _ _ p in
      let long : length (calls_in l) ≡ call_count = length-table (call_no l) 0 call_count in
      rw (c, p) (sym (set_out (calls_in l) (index_of (keys_in (inside l)) (entry_no (inside l) j).key) _ (omega (arith, long, far))))))
      (λ c. rw c)

length-brought : (l : List ℕ) (j : ℕ) → length (brought_at l j) ≡ length l
unfolding brought_at
length-brought l j = by-test (ltb (place_for (inside l) j) call_count) (λ p. rw p (length-call l (place_for (inside l) j) j)) (λ p. rw p)

inside-call : (l : List ℕ) (i j : ℕ) → inside (put_call l i j) ≡ inside l
unfolding put_call
inside-call l i j =
    inside-stored (stored l (call_place i) (cut l tick_from 4)) (call_place i + 8) (cut l (told_place j) told_length) (omega arith)
    ∙ inside-stored l (call_place i) (cut l tick_from 4) (omega arith)

inside-brought : (l : List ℕ) (j : ℕ) → inside (brought_at l j) ≡ inside l
unfolding brought_at
inside-brought l j = by-test (ltb (place_for (inside l) j) call_count) (λ p. rw p (inside-call l (place_for (inside l) j) j)) (λ p. rw p)

pub length-brought_run : (n : ℕ) (l : List ℕ) → length (brought_run n l) ≡ length l
unfolding brought_run
length-brought_run zero l = refl
length-brought_run (suc n) l = length-brought (brought_run n l) n ∙ length-brought_run n l

pub inside-brought_run : (n : ℕ) (l : List ℕ) → inside (brought_run n l) ≡ inside l
unfolding brought_run
inside-brought_run zero l = refl
inside-brought_run (suc n) l = inside-brought (brought_run n l) n ∙ inside-brought_run n l

all_one-more : (keys : List ℕ) (now : ℕ) (calls : List (Option Shown)) (ts : List Told) (t : Told)
    → all_in keys now calls (ts ++ (t ∷ [])) ≡ brought_in keys now (all_in keys now calls ts) t
unfolding all_in
all_one-more keys now calls [] t = refl
all_one-more keys now calls (u ∷ ts) t = all_one-more keys now (brought_in keys now calls u) ts t

-- what a receiver's octets bring to calls
abbrev from : List ℕ → List (Option Shown) → List Told → List (Option Shown)
from r calls ts = all_in (keys_in r) (le_at 4 r tick_from) calls ts

brought-run : (n : ℕ) (l : List ℕ) → length l ≡ yard_length → n ≤ most_entries → calls_in (brought_run n l) ≡ from (inside l) (calls_in l) (take n (last_of (inside l)).entries)
unfolding brought_run all_in
brought-run zero l w h = refl
brought-run (suc n) l w h =
    let r = inside l in
    let es = (last_of r).entries in
    calls-brought (brought_run n l) n (length-brought_run n l ∙ w) (omega arith)
    ∙ ap (λ (x : List ℕ). brought_in (keys_in x) (le_at 4 x tick_from) (calls_in (brought_run n l)) (entry_no x n)) (inside-brought_run n l)
    ∙ ap (λ (cs : List (Option Shown)). brought_in (keys_in r) (le_at 4 r tick_from) cs (entry_no r n)) (brought-run n l w (omega arith))
    ∙ sym (ap (from r (calls_in l)) (take-suc es n no_told (omega (arith, nine-entries r))) ∙ all_one-more (keys_in r) (le_at 4 r tick_from) (calls_in l) (take n es) (entry_no r n))

-- ## Both

module _ (all : Bool) (now : ℕ) (l : List ℕ) where
  pub inside-settled : inside (settled all now l) ≡ inside l
  unfolding settled
  inside-settled = inside-brought_run most_entries (left_run all now call_count l) ∙ inside-left_run all now call_count l

  pub calls-settled : length l ≡ yard_length → calls_in (settled all now l) ≡ from (inside l) (map (left_call all now) (calls_in l)) (last_of (inside l)).entries
  unfolding settled
  calls-settled w =
      let m = left_run all now call_count l in
      brought-run most_entries m (length-left_run all now call_count l ∙ w) (omega arith)
      ∙ ap (λ (x : List ℕ). from x (calls_in m) (take most_entries (last_of x).entries)) (inside-left_run all now call_count l)
      ∙ ap₂ (from (inside l)) (calls-left all now l w) (take_all most_entries (last_of (inside l)).entries (omega (arith, nine-entries (inside l))))

  pub length-settled : length (settled all now l) ≡ length l
  unfolding settled
  length-settled = length-brought_run most_entries (left_run all now call_count l) ∙ length-left_run all now call_count l

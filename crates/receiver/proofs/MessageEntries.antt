-- The entries of a message one by one: where a random entry stands, and what one more call adds. Assumes nothing.
use mathlib.Core.Path.{◌≡◌, refl, sym, ap, ap₂, ◌∙◌}
use mathlib.Core.List.{List, [], ◌∷◌, ◌++◌, append_assoc}
use mathlib.Core.Bool.{Bool, true, false}
use mathlib.Core.Option.{none, some}
use Prim.Native.Nat.{ℕ, zero, suc, ◌+◌, ◌≤◌, ◌<◌, min}
use native.Mathlib.Numerals.{add-one}
use native.Mathlib.Omega.{arith}
use lib.ListN.{length, get_or, set, take, length-append, length-take}
use lib.Seq.{take-suc, get_or-take, length-take-le}
use Rattle.bits.specs.Field.{pick}
use Rattle.csn1.specs.Told.{as_bit, padded}
use Rattle.call.specs.declared.Call.{Call}
use Rattle.call.specs.Call.{ciphered, no_call}
use Rattle.nch.specs.declared.Notification.{Notification}
use Rattle.nch.specs.declared.Reduced.{Reduced}
use Rattle.nch.specs.Octets.{count}
use Rattle.nch.specs.Write.{calls_of, is_described}
use Rattle.nch.specs.Owners.{nth, before, random_of_call, random_of_reduced, emergency_of_call}
use Rattle.receiver.specs.declared.Record.{Record}
use Rattle.receiver.specs.Model.{no_record, map_at}
use Rattle.receiver.specs.Step.{most_entries}
use Rattle.receiver.specs.Entries.{call_with, reduced_with, call_entry, reduced_entry}
use Rattle.receiver.proofs.Loops.{padded_snoc, length-map_at}

-- ## The k-th of the first n

nth-none : {A : Type 0} (k : ℕ) (l : List A) → length l ≤ k → nth k l ≡ none
nth-none k [] h = refl
nth-none zero (a ∷ l) h = absurd (omega arith)
nth-none (suc k) (a ∷ l) h = nth-none k l (omega arith)

pub nth_past : {A : Type 0} (k n : ℕ) (l : List A) → min n (length l) ≤ k → nth k (take n l) ≡ none
nth_past k n l h = nth-none k (take n l) (omega (arith, length-take n l))

pub nth-there : {A : Type 0} (k n : ℕ) (l : List A) (z : A) → k < n → k < length l → nth k (take n l) ≡ some (get_or l k z)
nth-there k zero l z h i = absurd (omega arith)
nth-there k (suc n) [] z h i = absurd (omega arith)
nth-there zero (suc n) (a ∷ l) z h i = refl
nth-there (suc k) (suc n) (a ∷ l) z h i = nth-there k n l z (omega arith) (omega arith)

-- ## One more value

count-more : {A : Type 0} (t : A → Bool) (l : List A) (a : A) → count t (l ++ (a ∷ [])) ≡ count t l + as_bit (t a)
count-more t [] a = go (t a)
  where
    go : (b : Bool) → pick b (1 + 0) 0 ≡ 0 + as_bit b
    go true = refl
    go false = refl
count-more {A} t (x ∷ l) a = go (t x) (count-more t l a)
  where
    go : (b : Bool) → count t (l ++ (a ∷ [])) ≡ count t l + as_bit (t a)
        → pick b (1 + count t (l ++ (a ∷ []))) (count t (l ++ (a ∷ []))) ≡ pick b (1 + count t l) (count t l) + as_bit (t a)
    go true e = omega arith
    go false e = e

map_at-more : {A B : Type 0} (f : ℕ → A → B) (k : ℕ) (l : List A) (a : A) → map_at f k (l ++ (a ∷ [])) ≡ map_at f k l ++ (f (k + length l) a ∷ [])
map_at-more f k [] a = ap (λ j. f j a ∷ []) (omega arith)
map_at-more f k (x ∷ l) a = ap (λ r. f k x ∷ r) (map_at-more f (suc k) l a ∙ ap (λ j. map_at f (suc k) l ++ (f j a ∷ [])) (omega arith))

-- the list l with one more entry, behind those of pre, in n places
module _ {A B : Type 0} (f : ℕ → A → B) (z : B) (n : ℕ) (pre : List B) (l : List A) (d : A) (i : ℕ) (h : i < length l) where
  placed : length (pre ++ map_at f 0 (take i l)) ≡ length pre + i
  placed = length-append pre (map_at f 0 (take i l)) ∙ ap (λ k. length pre + k) (length-map_at f 0 (take i l) ∙ length-take-le i l (omega arith))

  one_more : map_at f 0 (take (i + 1) l) ≡ map_at f 0 (take i l) ++ (f i (get_or l i d) ∷ [])
  one_more =
      ap (λ j. map_at f 0 (take j l)) (add-one i) ∙ ap (map_at f 0) (take-suc l i d h) ∙ map_at-more f 0 (take i l) (get_or l i d)
      ∙ ap (λ j. map_at f 0 (take i l) ++ (f j (get_or l i d) ∷ [])) (ap (λ k. 0 + k) (length-take-le i l (omega arith)) ∙ omega arith)

  pub places-more : (at : ℕ) → at ≡ length pre + i → at < n
      → set (padded z n (pre ++ map_at f 0 (take i l))) at (f i (get_or l i d)) ≡ padded z n (pre ++ map_at f 0 (take (i + 1) l))
  places-more at e k =
      let so : List B = pre ++ map_at f 0 (take i l) in
      let b : B = f i (get_or l i d) in
      let g : pre ++ map_at f 0 (take (i + 1) l) ≡ so ++ (b ∷ []) = ap (λ r. pre ++ r) one_more ∙ sym (append_assoc pre (map_at f 0 (take i l)) (b ∷ [])) in
      ap (λ j. set (padded z n so) j b) (e ∙ sym placed) ∙ sym (padded_snoc z n so b (omega (arith, placed))) ∙ ap (padded z n) (sym g)

-- ## In a notification

-- the i-th call's entry, from the places that the calls before it leave
pub call_entry-is : (m : Notification) (i : ℕ) → call_with m (before ciphered m i) (before is_described m i) (get_or (calls_of m) i no_call) ≡ call_entry m i (get_or (calls_of m) i no_call)
unfolding call_with call_entry random_of_call emergency_of_call
call_entry-is m i = refl

pub reduced_entry-is : (m : Notification) (j : ℕ) (r : Reduced) → reduced_with m (count ciphered (calls_of m) + j) r ≡ reduced_entry m j r
unfolding reduced_with reduced_entry random_of_reduced
reduced_entry-is m j r = refl

-- one more call is counted
before_more : (t : Call → Bool) (m : Notification) (i : ℕ) → i < length (calls_of m) → before t m i + as_bit (t (get_or (calls_of m) i no_call)) ≡ before t m (i + 1)
before_more t m i h =
    sym (ap (λ j. count t (take j (calls_of m))) (add-one i) ∙ ap (count t) (take-suc (calls_of m) i no_call h) ∙ count-more t (take i (calls_of m)) (get_or (calls_of m) i no_call))

-- at the head of the loop over the calls: i entries are made, and the next random entry and mark stand at random and mark
pub record CallsMade (m : Notification) (items : List Record) (random mark i : ℕ) : Type 0 where
  pub kept : items ≡ padded no_record most_entries (map_at (call_entry m) 0 (take i (calls_of m)))
  pub ciphers : random ≡ before ciphered m i
  pub describes : mark ≡ before is_described m i

-- what is in use of an array of n places
pub in_use : {A : Type 0} (k n : ℕ) (l : List A) → length l ≡ n → length (take k l) ≡ min k n
in_use k n l e = length-take k l ∙ ap (min k) e

module _ (m : Notification) (items : List Record) (random mark i : ℕ) (made : CallsMade m items random mark i) (four : length m.calls ≡ 4) where
  pub calls-more : i < min m.callcount 4 → (e : Record) (x y : ℕ) → e ≡ call_with m random mark (get_or m.calls i no_call)
      → x ≡ as_bit (ciphered (get_or m.calls i no_call)) → y ≡ as_bit (is_described (get_or m.calls i no_call))
      → CallsMade m (set items i e) (random + x) (mark + y) (i + 1)
  calls-more h e x y q a b =
      let lt : i < length (calls_of m) = omega (arith, in_use m.callcount 4 m.calls four) in
      let g : get_or m.calls i no_call ≡ get_or (calls_of m) i no_call = sym (get_or-take m.callcount m.calls i no_call (omega arith)) in
      let w : e ≡ call_entry m i (get_or (calls_of m) i no_call) = q ∙ rw (made.ciphers, made.describes, g, call_entry-is m i) in
      record {
        kept = ap₂ (λ s v. set s i v) made.kept w ∙ places-more (call_entry m) no_record most_entries [] (calls_of m) no_call i lt i (omega arith) (omega arith);
        ciphers = ap₂ (λ s v. s + v) made.ciphers (a ∙ ap (λ c. as_bit (ciphered c)) g) ∙ before_more ciphered m i lt;
        describes = ap₂ (λ s v. s + v) made.describes (b ∙ ap (λ c. as_bit (is_described c)) g) ∙ before_more is_described m i lt;
      }

abbrev pub reduceds_of : Notification → List Reduced
reduceds_of m = take m.release6.reducedcount m.release6.reduced

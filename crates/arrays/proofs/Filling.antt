-- Arrays of numbers that are copied into, cleared and stored. Assumes nothing.
use mathlib.Core.Path.{◌≡◌, refl, ap, sym, ◌∙◌}
use mathlib.Core.List.{List, [], ◌∷◌, ◌++◌}
use Prim.Native.Nat.{ℕ, zero, suc, ◌+◌, ◌≤◌, ◌<◌, min}
use native.Mathlib.Numerals.{add-one}
use native.Mathlib.Decide.{dec_le}
use native.Mathlib.Omega.{arith}
use lib.ListN.{length, get_or, take, set, replicate}
use lib.Seq.{sets, take-suc, take_all, take-suc-set}
use Rattle.csn1.specs.Told.{padded}
use Rattle.csn1.proofs.Lists.{padded-none}

-- ## The places of a list

module _ (z : ℕ) where
  -- what has no place does not count
  padded-take : (n : ℕ) (l : List ℕ) → padded z n (take n l) ≡ padded z n l
  padded-take zero l = refl
  padded-take (suc n) [] = refl
  padded-take (suc n) (a ∷ l) = ap (λ (x : List ℕ). a ∷ x) (padded-take n l)

  -- a list fills its own length
  pub padded-whole : (l : List ℕ) → padded z (length l) l ≡ l
  padded-whole [] = refl
  padded-whole (a ∷ l) = ap (λ (x : List ℕ). a ∷ x) (padded-whole l)

  -- one more of what stands in the places that are not used
  padded-zero : (n : ℕ) (l : List ℕ) → padded z n (l ++ (z ∷ [])) ≡ padded z n l
  padded-zero zero l = refl
  padded-zero (suc n) [] = refl
  padded-zero (suc n) (a ∷ l) = ap (λ (x : List ℕ). a ∷ x) (padded-zero n l)

-- ## Copying

-- the first i of f stand in o: one more does
pub copied_next : (f o : List ℕ) (i : ℕ) → take i o ≡ take i f → i < length o → i < length f → take (i + 1) (set o i (get_or f i 0)) ≡ take (i + 1) f
copied_next f o i e h k =
    rw (add-one i) (take-suc-set o i (get_or f i 0) h ∙ ap (λ (l : List ℕ). l ++ (get_or f i 0 ∷ [])) e ∙ sym (take-suc f i 0 k))

-- all do
pub copied : (f o : List ℕ) (i : ℕ) → take i o ≡ take i f → length o ≤ i → length f ≤ i → o ≡ f
copied f o i e h k = sym (take_all i o h) ∙ e ∙ take_all i f k

-- as many as f and the m places of o both have do
pub copied-most : (f o : List ℕ) (m i : ℕ) → length o ≡ m → i ≡ min (length f) m → take i o ≡ take i f → take (length f) o ≡ take m f
copied-most f o m i w q e = go (dec_le (length f) m)
  where
    go : Dec (length f ≤ m) → take (length f) o ≡ take m f
    go (yes h) =
        let a : i ≡ length f = omega arith in
        rw (← a) (e ∙ take_all i f (omega arith)) ∙ sym (take_all m f h)
    go (no h) =
        let a : i ≡ m = omega arith in
        take_all (length f) o (omega arith) ∙ sym (take_all i o (omega arith)) ∙ e ∙ ap (λ (j : ℕ). take j f) a

-- ## Clearing and storing

-- one more place cleared
pub cleared-next : (n : ℕ) (l k : List ℕ) (i : ℕ) → i < length l → padded 0 n (take i l) ≡ padded 0 n k → padded 0 n (take (i + 1) (set l i 0)) ≡ padded 0 n k
cleared-next n l k i h e = rw (add-one i, take-suc-set l i 0 h, padded-zero 0 n (take i l)) e

pub cleared : (n : ℕ) (l k : List ℕ) (i : ℕ) → length l ≡ n → n ≤ i → padded 0 n (take i l) ≡ padded 0 n k → l ≡ padded 0 n k
cleared n l k i m h e = sym (rw (← m) (padded-whole 0 l)) ∙ ap (padded 0 n) (sym (take_all i l (omega arith))) ∙ e

-- copied, then cleared behind
pub stored-all : (v o o' o'' : List ℕ) → take (length v) o' ≡ take (length o) v → length o' ≡ length o → o'' ≡ padded 0 (length o') (take (length v) o')
    → o'' ≡ padded 0 (length o) v
stored-all v o o' o'' e n f = f ∙ rw (n, e) (padded-take 0 (length o) v)

-- ## Stores over zeros

sets_nil : (i : ℕ) (vs : List ℕ) → sets [] i vs ≡ []
sets_nil i [] = refl
sets_nil i (v ∷ vs) = sets_nil (suc i) vs

sets_behind : (x : ℕ) (l : List ℕ) (i : ℕ) (vs : List ℕ) → sets (x ∷ l) (suc i) vs ≡ x ∷ sets l i vs
sets_behind x l i [] = refl
sets_behind x l i (v ∷ vs) = sets_behind x (set l i v) (suc i) vs

pub sets_zeros : (n : ℕ) (vs : List ℕ) → sets (replicate n 0) 0 vs ≡ padded 0 n vs
sets_zeros n [] = sym (padded-none 0 n)
sets_zeros zero (v ∷ vs) = sets_nil 1 vs
sets_zeros (suc n) (v ∷ vs) = sets_behind v (replicate n 0) 0 vs ∙ ap (λ (x : List ℕ). v ∷ x) (sets_zeros n vs)

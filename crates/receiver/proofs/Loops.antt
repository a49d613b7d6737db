-- Laws of a loop that goes once over a list, stores at each place and counts. Assumes nothing.
use mathlib.Core.Path.{◌≡◌, refl, ap, sym}
use mathlib.Core.Bool.{Bool, true, false}
use mathlib.Core.List.{List, [], ◌∷◌, ◌++◌}
use Prim.Native.Nat.{ℕ, zero, suc, ◌+◌, ◌≤◌, ◌<◌}
use native.Mathlib.Nat.{add-zero, add-suc, zero-add, suc-add}
use native.Mathlib.Omega.{arith}
use lib.ListN.{length, get_or, set}
use Rattle.csn1.specs.Told.{as_bit, padded}
use Rattle.receiver.specs.Model.{map_at, count_at}

-- the list with its first n elements changed, each by its place
abbrev pub part_at : {A : Type 0} → (ℕ → A → A) → ℕ → ℕ → List A → List A
part_at f k zero l = l
part_at f k (suc n) [] = []
part_at f k (suc n) (x ∷ xs) = f k x ∷ part_at f (suc k) n xs

-- how many of the first n elements pass a test
abbrev pub part_count : {A : Type 0} → (ℕ → A → Bool) → ℕ → ℕ → List A → ℕ
part_count t k zero l = 0
part_count t k (suc n) [] = 0
part_count t k (suc n) (x ∷ xs) = as_bit (t k x) + part_count t (suc k) n xs

module _ {A : Type 0} (f : ℕ → A → A) where
  pub part_get : (k n : ℕ) (l : List A) (d : A) → get_or (part_at f k n l) n d ≡ get_or l n d
  part_get k zero l d = refl
  part_get k (suc n) [] d = refl
  part_get k (suc n) (x ∷ xs) d = part_get (suc k) n xs d

  -- one more store, at place n: past the end nothing changes on either side
  pub part-set : (k n : ℕ) (l : List A) (v d : A) → v ≡ f (k + n) (get_or l n d) → set (part_at f k n l) n v ≡ part_at f k (suc n) l
  part-set k zero [] v d e = refl
  part-set k zero (x ∷ xs) v d e = rw e (rw add-zero)
  part-set k (suc n) [] v d e = refl
  part-set k (suc n) (x ∷ xs) v d e = ap (λ (r : List A). f k x ∷ r) (part-set (suc k) n xs v d (rw (suc-add, ← add-suc) e))

  -- no store, where f leaves what stands at place n
  pub part-keep : (k n : ℕ) (l : List A) (d : A) → f (k + n) (get_or l n d) ≡ get_or l n d → part_at f k n l ≡ part_at f k (suc n) l
  part-keep k zero [] d e = refl
  part-keep k zero (x ∷ xs) d e = ap (λ (y : A). y ∷ xs) (sym (rw add-zero at e))
  part-keep k (suc n) [] d e = refl
  part-keep k (suc n) (x ∷ xs) d e = ap (λ (r : List A). f k x ∷ r) (part-keep (suc k) n xs d (rw (suc-add, ← add-suc) e))

  pub part-all : (k n : ℕ) (l : List A) → length l ≤ n → part_at f k n l ≡ map_at f k l
  part-all k zero [] h = refl
  part-all k zero (x ∷ xs) h = absurd (omega arith)
  part-all k (suc n) [] h = refl
  part-all k (suc n) (x ∷ xs) h = ap (λ (r : List A). f k x ∷ r) (part-all (suc k) n xs (omega arith))

module _ {A : Type 0} (t : ℕ → A → Bool) where
  pub count_le : (k n : ℕ) (l : List A) → part_count t k n l ≤ n
  count_le k zero l = omega arith
  count_le k (suc n) [] = omega arith
  count_le k (suc n) (x ∷ xs) = go (t k x) (count_le (suc k) n xs)
    where
      go : (b : Bool) {m : ℕ} → m ≤ n → as_bit b + m ≤ suc n
      go true h = omega arith
      go false h = omega arith

  pub count-step : (k n : ℕ) (l : List A) (d : A) → n < length l → part_count t k (suc n) l ≡ part_count t k n l + as_bit (t (k + n) (get_or l n d))
  count-step k zero [] d h = absurd (omega arith)
  count-step k zero (x ∷ xs) d h = simp (add-zero, zero-add)
  count-step k (suc n) [] d h = absurd (omega arith)
  count-step k (suc n) (x ∷ xs) d h = rw (count-step (suc k) n xs d (omega arith), suc-add, ← add-suc) (omega arith)

  pub count-all : (k n : ℕ) (l : List A) → length l ≤ n → part_count t k n l ≡ count_at t k l
  count-all k zero [] h = refl
  count-all k zero (x ∷ xs) h = absurd (omega arith)
  count-all k (suc n) [] h = refl
  count-all k (suc n) (x ∷ xs) h = ap (λ (m : ℕ). as_bit (t k x) + m) (count-all (suc k) n xs (omega arith))

-- one more value, where there is a place for it
pub padded_snoc : {A : Type 0} (z : A) (n : ℕ) (l : List A) (a : A) → length l < n → padded z n (l ++ (a ∷ [])) ≡ set (padded z n l) (length l) a
padded_snoc z zero l a h = absurd (omega arith)
padded_snoc z (suc n) [] a h = refl
padded_snoc z (suc n) (b ∷ l) a h = ap (λ t. b ∷ t) (padded_snoc z n l a (omega arith))

-- ## A list mapped by place

pub get_d_map_at : {A B : Type 0} (f : ℕ → A → B) (k : ℕ) (l : List A) (i : ℕ) (a : A) (b : B) → i < length l → get_or (map_at f k l) i b ≡ f (k + i) (get_or l i a)
get_d_map_at f k [] i a b h = absurd (omega arith)
get_d_map_at f k (x ∷ l) zero a b h = rw add-zero
get_d_map_at f k (x ∷ l) (suc i) a b h = rw (get_d_map_at f (suc k) l i a b (omega arith), suc-add, ← add-suc)

pub length-map_at : {A B : Type 0} (f : ℕ → A → B) (k : ℕ) (l : List A) → length (map_at f k l) ≡ length l
length-map_at f k [] = refl
length-map_at f k (x ∷ l) = ap suc (length-map_at f (suc k) l)

-- Runs of numbers in an array: what stands where, runs one behind the other, and the parts of a list as runs. Assumes nothing.
use mathlib.Core.Path.{◌≡◌, refl, ap, ap₂, sym, ◌∙◌}
use mathlib.Core.List.{List, [], ◌∷◌, ◌++◌, map, append-nil}
use Prim.Native.Nat.{ℕ, zero, suc, ◌+◌, ◌*◌, ◌≤◌, ◌<◌}
use native.Mathlib.Numerals.{add-one}
use native.Mathlib.Nat.{add-zero, add-suc, suc-add, add_comm, mul-suc}
use native.Mathlib.Omega.{arith}
use lib.Dec.{leb}
use lib.ListN.{length, get_or, take, set, length-append, length-set, drop_of_length-le}
use lib.Seq.{sets, sets-eq, length-sets, length-take-le, take-suc, get_or-set_same, get_or-set_other, set_comm, set-set}
use borrow.Author.Tests.{le-leb, lt-leb}
use Rattle.bits.specs.Field.{pick}
use Rattle.csn1.specs.Told.{padded}
use Rattle.csn1.proofs.Lists.{length-padded}
use Rattle.arrays.specs.Runs.{stored, each, parts_from}
use Rattle.arrays.specs.Inner.{list_run}

-- ## One run

pub stored-none : (l : List ℕ) (at : ℕ) → stored l at [] ≡ l
unfolding stored
stored-none l at = refl

pub stored_one : (l : List ℕ) (at v : ℕ) → set l at v ≡ stored l at (v ∷ [])
unfolding stored
stored_one l at v = refl

pub length-stored : (l : List ℕ) (at : ℕ) (vs : List ℕ) → length (stored l at vs) ≡ length l
unfolding stored
length-stored l at vs = length-sets l at vs

-- what stands before, behind and among the values
pub stored-before : (l : List ℕ) (at : ℕ) (vs : List ℕ) (j : ℕ) → j < at → get_or (stored l at vs) j 0 ≡ get_or l j 0
unfolding stored
stored-before l at [] j h = refl
stored-before l at (v ∷ vs) j h = stored-before (set l at v) (suc at) vs j (omega arith) ∙ get_or-set_other l at j v 0 (λ e. omega arith)

pub stored-after : (l : List ℕ) (at : ℕ) (vs : List ℕ) (j : ℕ) → at + length vs ≤ j → get_or (stored l at vs) j 0 ≡ get_or l j 0
unfolding stored
stored-after l at [] j h = refl
stored-after l at (v ∷ vs) j h = stored-after (set l at v) (suc at) vs j (omega arith) ∙ get_or-set_other l at j v 0 (λ e. omega arith)

pub stored_in : (l : List ℕ) (at : ℕ) (vs : List ℕ) (n : ℕ) → at + length vs ≤ length l → n < length vs → get_or (stored l at vs) (at + n) 0 ≡ get_or vs n 0
unfolding stored
stored_in l at [] n h k = absurd (omega arith)
stored_in l at (v ∷ vs) zero h k =
    rw add-zero (stored-before (set l at v) (suc at) vs at (omega arith) ∙ get_or-set_same l at v 0 (omega arith))
stored_in l at (v ∷ vs) (suc n) h k =
    rw (add-suc, ← suc-add) (stored_in (set l at v) (suc at) vs n (simp length-set (omega arith)) (omega arith))

-- a run as long as the array is the array
pub stored-whole : (l vs : List ℕ) → length vs ≡ length l → stored l 0 vs ≡ vs
unfolding stored
stored-whole l vs n =
    sets-eq vs l 0 (omega arith)
    ∙ ap (λ (x : List ℕ). vs ++ x) (drop_of_length-le l {i = 0 + length vs} (omega arith)) ∙ append-nil vs

-- what `fill::run` leaves, where all values have places and where they have not
module _ (l : List ℕ) (at : ℕ) (vs : List ℕ) where
  pub run-stored : at + length vs ≤ length l → pick (leb (at + length vs) (length l)) (stored l at vs) l ≡ stored l at vs
  run-stored h = rw (le-leb (at + length vs) (length l) h)

  pub run_not : length l < at + length vs → pick (leb (at + length vs) (length l)) (stored l at vs) l ≡ l
  run_not h = rw (lt-leb (at + length vs) (length l) h)

-- ## Runs one behind the other

pub sets_append : (l : List ℕ) (i : ℕ) (a b : List ℕ) → sets l i (a ++ b) ≡ sets (sets l i a) (i + length a) b
sets_append l i [] b = rw add-zero refl
sets_append l i (x ∷ a) b = rw (sets_append (set l i x) (suc i) a b, suc-add, ← add-suc) refl

pub stored-then : (l : List ℕ) (at : ℕ) (a b : List ℕ) → stored (stored l at a) (at + length a) b ≡ stored l at (a ++ b)
unfolding stored
stored-then l at a b = sym (sets_append l at a b)

-- one more value of a run
pub stored_next : (l : List ℕ) (at : ℕ) (v : List ℕ) (i : ℕ) → i < length v
    → set (stored l at (take i v)) (at + i) (get_or v i 0) ≡ stored l at (take (i + 1) v)
unfolding stored
stored_next l at v i h =
    let n : length (take i v) ≡ i = length-take-le i v (omega arith) in
    sym
    (ap (λ (x : List ℕ). sets l at x) (ap (λ (j : ℕ). take j v) (add-one i) ∙ take-suc v i 0 h)
    ∙ sets_append l at (take i v) (get_or v i 0 ∷ [])
    ∙ ap (λ (k : ℕ). set (sets l at (take i v)) (at + k) (get_or v i 0)) n)

-- one more run, where k values have been stored from a place on
pub more : (k : ℕ) (l l' l'' : List ℕ) (at : ℕ) (a b : List ℕ) → l' ≡ stored l at a → length a ≡ k → l'' ≡ stored l' (at + k) b → l'' ≡ stored l at (a ++ b)
unfolding stored
more k l l' l'' at a b p n q = rw (sets_append l at a b, n, ← p) q

-- ## A run written over a run

sets_before : (l : List ℕ) (j i v : ℕ) (vs : List ℕ) → j < i → set (sets l i vs) j v ≡ sets (set l j v) i vs
sets_before l j i v [] h = refl
sets_before l j i v (x ∷ vs) h = sets_before (set l i x) j (suc i) v vs (omega arith) ∙ ap (λ (y : List ℕ). sets y (suc i) vs) (set_comm l i j x v (λ e. omega arith))

-- how many, before the entries themselves
pub stored-led : (l : List ℕ) (at v : ℕ) (vs : List ℕ) → set (stored l (at + 1) vs) at v ≡ stored l at (v ∷ vs)
unfolding stored
stored-led l at v vs = sets_before l at (at + 1) v vs (omega arith) ∙ ap (λ (k : ℕ). sets (set l at v) k vs) (add-one at)

sets_again : (l : List ℕ) (i : ℕ) (a b c : List ℕ) → length c ≡ length a → sets (sets l i (a ++ b)) i c ≡ sets l i (c ++ b)
sets_again l i [] b [] n = refl
sets_again l i (x ∷ a) b (y ∷ c) n =
    ap (λ (t : List ℕ). sets t (suc i) c) (sets_before (set l i x) i (suc i) y (a ++ b) (omega arith) ∙ ap (λ (t : List ℕ). sets t (suc i) (a ++ b)) (set-set l i x y))
    ∙ sets_again (set l i y) (suc i) a b c (omega arith)
sets_again l i [] b (y ∷ c) n = absurd (omega arith)
sets_again l i (x ∷ a) b [] n = absurd (omega arith)

-- ## The parts of a list, run behind run

module _ {A : Type 0} (f : A → List ℕ) (w : ℕ) (fixed : (a : A) → length (f a) ≡ w) where
  pub length-each : (xs : List A) → length (each f xs) ≡ w * length xs
  unfolding each
  length-each [] = omega arith
  length-each (x ∷ xs) = length-append (f x) (each f xs) ∙ ap₂ ◌+◌ (fixed x) (length-each xs) ∙ sym (mul-suc w (length xs) ∙ add_comm (w * length xs) w)

  pub length_run : {B : Type 0} (told : B → A) (z : A) (n : ℕ) (l : List B) → length (list_run told z f n l) ≡ 1 + w * n
  length_run told z n l =
      let e : length (each f (padded z n (map told l))) ≡ w * n = length-each (padded z n (map told l)) ∙ ap (λ (k : ℕ). w * k) (length-padded z n (map told l)) in
      omega arith

  -- another part in its place
  pub each_set : (l : List ℕ) (at : ℕ) (items : List A) (n : ℕ) (b : A) → n < length items
      → stored (stored l at (each f items)) (at + w * n) (f b) ≡ stored l at (each f (set items n b))
  unfolding stored each
  each_set l at [] n b h = absurd (omega arith)
  each_set l at (x ∷ items) zero b h =
      let k : at + w * 0 ≡ at = omega arith in
      rw k (sets_again l at (f x) (each f items) (f b) (fixed b ∙ sym (fixed x)))
  each_set l at (x ∷ items) (suc n) b h =
      let k : at + w * suc n ≡ at + w + w * n = omega arith in
      rw (sets_append l at (f x) (each f items), sets_append l at (f x) (each f (set items n b)), fixed x, k)
      (each_set (sets l at (f x)) (at + w) items n b (omega arith))

-- ## Parts from their numbers

module _ {A : Type 0} (w : ℕ) where
  -- the k-th of them
  pub parts_at : (f : ℕ → A) (at n : ℕ) (d : A) (k : ℕ) → k < n → get_or (parts_from f at w n) k d ≡ f (at + w * k)
  parts_at f at zero d k h = absurd (omega arith)
  parts_at f at (suc n) d zero h =
      let e : at ≡ at + w * 0 = omega arith in
      ap f e
  parts_at f at (suc n) d (suc k) h =
      let e : at + w + w * k ≡ at + w * suc k = omega arith in
      parts_at f (at + w) n d k (omega arith) ∙ ap f e

  -- two ways to read them
  pub parts_same : (f g : ℕ → A) (at n : ℕ) → ((k : ℕ) → k < n → f (at + w * k) ≡ g (at + w * k)) → parts_from f at w n ≡ parts_from g at w n
  parts_same f g at zero h = refl
  parts_same f g at (suc n) h =
      let e : at + w * 0 ≡ at = omega arith in
      ap₂ (λ (x : A) (r : List A). x ∷ r) (rw e at (h 0 (omega arith)))
      (parts_same f g (at + w) n (λ k l. let e : at + w * suc k ≡ at + w + w * k = omega arith in rw e at (h (suc k) (omega arith))))

-- What is put into an array of zeros, where only what is there is put. Assumes nothing.
use mathlib.Core.Path.{◌≡◌, refl, sym, ap, ap₂, ◌∙◌}
use mathlib.Core.List.{List, [], ◌∷◌}
use mathlib.Core.Bool.{true}
use mathlib.Core.Option.{none, some}
use Prim.Native.Nat.{ℕ, suc, ◌+◌}
use native.Mathlib.Numerals.{add-one, add-two}
use native.Mathlib.Omega.{arith}
use lib.ListN.{length, set, length-set}
use borrow.Author.Tests.{eq-eqb, ne_eqb}
use Rattle.bits.specs.Field.{field}
use Rattle.arrays.specs.Runs.{stored}
use Rattle.arrays.specs.Inner.{Zeros}
use Rattle.arrays.proofs.Zeroed.{zeros-later, zeros-set, zeros-run}
use Rattle.words.specs.Unasked.{Took, took, unmet}
use Rattle.nch_words.specs.Inner.{Put, no_part_taken, part_taken, FlagPut}

-- ## Zeros that are not put

-- a number is put, and behind it zeros stay
pub zeros-next : (l : List ℕ) (i v : ℕ) → Zeros l i → Zeros (set l i v) (i + 1)
zeros-next l i v z = zeros-set l (i + 1) i v (omega arith) (zeros-later l i (i + 1) (omega arith) z)

pub zeros-two : (l : List ℕ) (i a b : ℕ) → Zeros l i → Zeros (set (set l i a) (i + 1) b) (i + 2)
zeros-two l i a b z =
    zeros-set (set l i a) (i + 2) (i + 1) b (omega arith) (zeros-set l (i + 2) i a (omega arith) (zeros-later l i (i + 2) (omega arith) z))

pub zeros-three : (l : List ℕ) (i a b c : ℕ) → Zeros l i → Zeros (set (set (set l i a) (i + 1) b) (i + 2) c) (i + 3)
zeros-three l i a b c z =
    zeros-set (set (set l i a) (i + 1) b) (i + 3) (i + 2) c (omega arith)
    (zeros-set (set l i a) (i + 3) (i + 1) b (omega arith) (zeros-set l (i + 3) i a (omega arith) (zeros-later l i (i + 3) (omega arith) z)))

pub length_three : (l : List ℕ) (i j k a b c : ℕ) → length (set (set (set l i a) j b) k c) ≡ length l
length_three l i j k a b c = simp length-set

pub second-place : (l : List ℕ) (i v : ℕ) → set l (i + 1 + 1) v ≡ set l (i + 2) v
second-place l i v =
    let k : i + 1 + 1 ≡ i + 2 = omega arith in
    ap (λ (j : ℕ). set l j v) k

none_put : (l : List ℕ) (i : ℕ) → Zeros l i → set l i 0 ≡ l
unfolding stored
none_put l i z = zeros-run l i 1 z

pub two_none : (l : List ℕ) (i : ℕ) → Zeros l i → l ≡ set (set l i 0) (i + 1) 0
two_none l i z =
    sym (ap (λ (x : List ℕ). set x (i + 1) 0) (none_put l i z) ∙ none_put l (i + 1) (zeros-later l i (i + 1) (omega arith) z))

-- the second of three is 0, and the first is
pub second_none : (l : List ℕ) (i a c : ℕ) → Zeros l i → set (set l i a) (i + 2) c ≡ stored l i (a ∷ 0 ∷ c ∷ [])
unfolding stored
second_none l i a c z =
    rw (add-two i) (sym (ap (λ (x : List ℕ). set x (suc (suc i)) c) (ap (λ (k : ℕ). set (set l i a) k 0) (sym (add-one i)) ∙ none_put (set l i a) (i + 1) (zeros-next l i a z))))

pub first-none : (l : List ℕ) (i b c : ℕ) → Zeros l i → set (set l (i + 1) b) (i + 2) c ≡ stored l i (0 ∷ b ∷ c ∷ [])
unfolding stored
first-none l i b c z = rw (add-one i, add-two i) (ap (λ (x : List ℕ). set (set x (suc i) b) (suc (suc i)) c) (sym (none_put l i z)))

-- ## What was taken is put, or a test was not met

module _ {A : Type 0} (run : A → List ℕ) (place : ℕ) (t : Took A) (before after : List ℕ) where
  pub put_took : (v : A) (q : ℕ) → t ≡ took v q → after ≡ stored before place (run v) → (record { done = true; at = q } ≡ part_taken t) × Put run place t before after
  put_took v q e f = rw e (refl, f)

  pub put_unmet : t ≡ unmet → (no_part_taken ≡ part_taken t) × Put run place t before after
  put_unmet e = rw e (refl, tt)

-- ## A number led by a flag

module _ (s : List ℕ) (p k w place : ℕ) (l : List ℕ) (b : ℕ) (e : b ≡ field s (p + k) 1) where
  pub flag-none : b ≡ 0 → Zeros l place → FlagPut s p k w place (k + 1) l l
  flag-none z y =
      let n : p + k + 1 ≡ p + (k + 1) = omega arith in
      record { value = none; is = rw (← e, eq-eqb b 0 z) (ap (λ q. took none q) n); left = two_none l place y }

  pub flag-some : (b ≡ 0 → ⊥) → (v : ℕ) → v ≡ field s (p + (k + 1)) w → FlagPut s p k w place (k + 1 + w) l (set (set l place 1) (place + 1) v)
  flag-some n v f =
      let m : p + k + 1 ≡ p + (k + 1) = omega arith in
      let o : p + (k + 1) + w ≡ p + (k + 1 + w) = omega arith in
      record {
        value = some v;
        is = rw (← e, ne_eqb b 0 n) (ap (λ q. took (some (field s q w)) (q + w)) m ∙ ap₂ (λ x q. took (some x) q) (sym f) o);
        left = refl;
      }

-- What a test that passed shows; and a rule of numbers below a bound, proved at all of them by one test that antt computes. Assumes nothing.
use mathlib.Core.Path.{◌≡◌, refl}
use mathlib.Core.Bool.{Bool, true, false}
use mathlib.Core.Logic.{⊎_elim}
use native.Mathlib.Nat.{eq-or-lt_of_le, le_of_suc-le-suc}
use native.Mathlib.Omega.{arith}
use borrow.Author.Tests.{eqb-true}
use Prim.Native.Nat.{ℕ, zero, suc, ◌<◌}
use lib.Dec.{eqb}
use Rattle.bits.specs.Field.{pick, both}
use Rattle.bits.proofs.Answers.{both_true}

-- a choice that is numbered 0, where the other is not
pub passed : {A : Type 0} (number : A → ℕ) (b : Bool) (x y : A) → 0 < number y → number (pick b x y) ≡ 0 → (b ≡ true) × (number x ≡ 0)
passed number true x y h e = (refl, e)
passed number false x y h e = absurd (omega arith)

-- the test passes at each number below n
abbrev pub every : (ℕ → Bool) → ℕ → Bool
every f zero = true
every f (suc n) = both (f n) (every f n)

pub below : (f : ℕ → Bool) (n : ℕ) → every f n ≡ true → (k : ℕ) → k < n → f k ≡ true
below f zero e k h = absurd (omega arith)
below f (suc n) e k h =
    let b = both_true (f n) (every f n) e in
    ⊎_elim (λ q. rw q b.0) (λ l. below f n b.1 k l) (eq-or-lt_of_le (le_of_suc-le-suc h))

-- two functions agree below n
pub agree : (f g : ℕ → ℕ) (n : ℕ) → every (λ k. eqb (f k) (g k)) n ≡ true → (k : ℕ) → k < n → f k ≡ g k
agree f g n e k h = eqb-true (f k) (g k) (below (λ k. eqb (f k) (g k)) n e k h)

-- or where a test passes
pub agree_where : (t : ℕ → Bool) (f g : ℕ → ℕ) (n : ℕ) → every (λ k. pick (t k) (eqb (f k) (g k)) true) n ≡ true → (k : ℕ) → k < n → t k ≡ true → f k ≡ g k
agree_where t f g n e k h w =
    let b : pick (t k) (eqb (f k) (g k)) true ≡ true = below (λ k. pick (t k) (eqb (f k) (g k)) true) n e k h in
    eqb-true (f k) (g k) (rw w at b)

-- one test passes where another does
pub below_where : (t f : ℕ → Bool) (n : ℕ) → every (λ k. pick (t k) (f k) true) n ≡ true → (k : ℕ) → k < n → t k ≡ true → f k ≡ true
below_where t f n e k h w =
    let b : pick (t k) (f k) true ≡ true = below (λ k. pick (t k) (f k) true) n e k h in
    rw w at b

-- the same answer
abbrev pub same : Bool → Bool → Bool
same true b = b
same false true = false
same false false = true

pub same_true : (a b : Bool) → same a b ≡ true → a ≡ b
same_true true true e = refl
same_true true false e = cc
same_true false true e = cc
same_true false false e = refl

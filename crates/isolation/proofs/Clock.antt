-- The wrapped difference of ticks is the sum of the accepted steps, while a half is younger than its timer. Assumes nothing.
use mathlib.Core.Path.{◌≡◌, refl}
use mathlib.Core.Bool.{Bool, true, false}
use mathlib.Core.Logic.{◌⊎◌, inl, inr, ⊎_elim}
use borrow.Author.Tests.{leb-true, leb-false}
use lib.Dec.{leb}
use Prim.Native.Nat.{ℕ, ◌+◌, ◌^◌, ◌≤◌, ◌<◌}
use native.Mathlib.Omega.{arith}
use Rattle.receiver.specs.Model.{longest_timer, wrap_sub, late_step}

-- x is the step from b to a, with no remainder: the counter went on, or it wrapped once
abbrev Step : ℕ → ℕ → ℕ → Type 0
Step a b x = ((b ≤ a) × (x + b ≡ a)) ⊎ ((a < b) × (x + b ≡ a + 2 ^ 32))

steps : (a b : ℕ) → a < 2 ^ 32 → b < 2 ^ 32 → Step a b (wrap_sub a b)
steps a b p q = go (leb b a) refl
  where
    go : (t : Bool) → leb b a ≡ t → Step a b (wrap_sub a b)
    go true e = let h : b ≤ a = leb-true b a e in inl (h, omega arith)
    go false e = let h : a < b = leb-false b a e in inr (h, omega arith)

sums : (s t n x y z : ℕ) → s < 2 ^ 32 → t < 2 ^ 32 → n < 2 ^ 32 → x < longest_timer → y < late_step → Step t s x → Step n t y → Step n s z → z ≡ x + y
sums s t n x y z a b c d e p q r =
    ⊎_elim
    (λ u. ⊎_elim (λ v. ⊎_elim (λ w. omega arith) (λ w. omega arith) r) (λ v. ⊎_elim (λ w. omega arith) (λ w. omega arith) r) q)
    (λ u. ⊎_elim (λ v. ⊎_elim (λ w. omega arith) (λ w. omega arith) r) (λ v. ⊎_elim (λ w. omega arith) (λ w. omega arith) r) q)
    p

-- a half's age after a step is its age before and the step
pub elapsed : (since tick new : ℕ) → since < 2 ^ 32 → tick < 2 ^ 32 → new < 2 ^ 32 → wrap_sub tick since < longest_timer → wrap_sub new tick < late_step
    → wrap_sub new since ≡ wrap_sub tick since + wrap_sub new tick
elapsed since tick new a b c d e =
    sums since tick new (wrap_sub tick since) (wrap_sub new tick) (wrap_sub new since) a b c d e (steps tick since b a) (steps new tick c b) (steps new since c a)

-- and at its own tick none
pub ageless : (tick : ℕ) → wrap_sub tick tick ≡ 0
ageless tick = omega arith

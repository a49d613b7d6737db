-- Calls that leave: the tests of the code, and what they leave in the octets. Assumes nothing.
use mathlib.Core.Path.{◌≡◌, refl, sym, ap, ◌∙◌}
use mathlib.Core.Bool.{Bool, true, false}
use mathlib.Core.List.{List}
use mathlib.Core.Option.{Option, none, some}
use Prim.Native.Nat.{ℕ, ◌+◌}
use native.Mathlib.Numerals.{add-one}
use lib.Dec.{leb}
use lib.ListN.{replicate}
use Rattle.arrays.specs.Runs.{stored}
use Rattle.receiver.specs.Model.{wrap_sub}
use Rattle.layout.specs.Octets.{le_at, octet_at}
use Rattle.layout.specs.Layout.{carries}
use Rattle.yard.specs.Yard.{Shown, call_timer, leaves}
use Rattle.yard.specs.Octets.{call_length, call_place, call_no, left_at, left_run}

pub leaves_yes : (all : Bool) (now : ℕ) (c : Option Shown) → all ≡ true → true ≡ leaves all now c
leaves_yes all now none p = sym p
leaves_yes all now (some s) p = rw p

module _ (l : List ℕ) (i now : ℕ) (all : Bool) (p : all ≡ false) where
  pub leaves_not : carries (octet_at l (call_place i + 16)) ≡ false → false ≡ leaves all now (call_no l i)
  unfolding call_no
  leaves_not q = rw q (sym p)

  pub leaves-old : carries (octet_at l (call_place i + 16)) ≡ true → (since age : ℕ) → since ≡ le_at 4 l (call_place i) → age ≡ wrap_sub now since
      → leb call_timer age ≡ leaves all now (call_no l i)
  unfolding call_no
  leaves-old q since age s a = rw (q, p) (ap (leb call_timer) (a ∙ ap (λ (x : ℕ). wrap_sub now x) s))

module _ (all : Bool) (now : ℕ) (l : List ℕ) (i : ℕ) where
  pub left-stays : leaves all now (call_no l i) ≡ false → l ≡ left_at all now l i
  unfolding left_at
  left-stays p = rw p

  pub left-goes : leaves all now (call_no l i) ≡ true → (b : List ℕ) → b ≡ stored l (call_place i) (replicate call_length 0) → b ≡ left_at all now l i
  unfolding left_at
  left-goes p b e = rw p e

pub left-next : (all : Bool) (now : ℕ) (l b b' : List ℕ) (n : ℕ) → b ≡ left_run all now n l → b' ≡ left_at all now b n → b' ≡ left_run all now (n + 1) l
unfolding left_run
left-next all now l b b' n e q = q ∙ ap (λ (x : List ℕ). left_at all now x n) e ∙ ap (λ (k : ℕ). left_run all now k l) (sym (add-one n))

pub left-none : (all : Bool) (now : ℕ) (l : List ℕ) → l ≡ left_run all now 0 l
unfolding left_run
left-none all now l = refl

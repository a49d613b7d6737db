-- Tests and answers as they are told: what an answer of yes, or of 0, says. Assumes nothing.
use mathlib.Core.Path.{◌≡◌, refl, sym, ◌∙◌}
use mathlib.Core.Bool.{Bool, true, false, not}
use mathlib.Core.List.{List, [], ◌∷◌, ◌++◌}
use mathlib.Core.Option.{Option, none, some}
use Prim.Native.Nat.{ℕ, ◌<◌}
use native.Mathlib.Omega.{arith}
use lib.Dec.{eqb}
use borrow.Author.Tests.{eqb-true, eqb-false, ne_eqb, not-true, not-false}
use Rattle.bits.specs.Field.{both, pick, first_due}
use Rattle.csn1.specs.Told.{is_there, or_zero, there}

pub true-both : {a b : Bool} → a ≡ true → b ≡ true → both a b ≡ true
true-both e f = rw (e, f)

-- what a test `!f(x)` says of the answer that f must give
pub fails : {a b : Bool} → not a ≡ true → a ≡ b → b ≡ false
fails {a} n e = sym e ∙ not-true a n

pub passes : {a b : Bool} → not a ≡ false → a ≡ b → b ≡ true
passes {a} n e = sym e ∙ not-false a n

-- a refusal's number is not 0, so that an answer of 0 says that the test was passed
pub picked : (t : Bool) (n k : ℕ) → 0 < k → pick t n k ≡ 0 → (t ≡ true) × (n ≡ 0)
picked true n k h e = (refl, e)
picked false n k h e = absurd (omega arith)

-- a refusal is handed on, so that an answer of 0 says that there was none
pub handed_on : (r n : ℕ) → pick (eqb r 0) n r ≡ 0 → (r ≡ 0) × (n ≡ 0)
handed_on r n e = go (eqb r 0) refl e
  where
    go : (t : Bool) → eqb r 0 ≡ t → pick t n r ≡ 0 → (r ≡ 0) × (n ≡ 0)
    go true o e = (eqb-true r 0 o, e)
    go false o e = absurd (eqb-false r 0 o e)

-- no test's refusal is numbered 0
abbrev pub Due : List (Bool × ℕ) → Type 0
Due [] = Unit {0}
Due (t ∷ ts) = (0 < t.1) × Due ts

-- tests made behind others: what these refuse is handed on
pub due-last : (ts us : List (Bool × ℕ)) → Due ts → first_due (ts ++ us) ≡ pick (eqb (first_due ts) 0) (first_due us) (first_due ts)
due-last [] us h = refl
due-last (t ∷ ts) us h = go t.0 (due-last ts us h.1)
  where
    go : (b : Bool) → first_due (ts ++ us) ≡ pick (eqb (first_due ts) 0) (first_due us) (first_due ts)
        → pick b (first_due (ts ++ us)) t.1 ≡ pick (eqb (pick b (first_due ts) t.1) 0) (first_due us) (pick b (first_due ts) t.1)
    go true r = r
    go false r = rw (ne_eqb t.1 0 (λ e. omega (arith, e, h.0)))

-- a number that may be missing is its flag and itself, or 0
pub number-back : (o : Option ℕ) → there (is_there o) (or_zero o) ≡ o
number-back none = refl
number-back (some v) = refl

-- What is read when nothing asks whether bits are there; behind the octets every bit is 0. Assumes nothing.
use Rattle.std.specs.Prelude.{List, [], ◌∷◌, ℕ, zero, suc, ◌+◌, ◌*◌, length, eqb}
use Rattle.std.proofs.Math.Option.{none, some}
use Rattle.std.proofs.Common.{inl, inr}
use Rattle.bits.specs.Field.{field, pick}
use Rattle.csn1.specs.Format.{total, fields_at, pad_bit}
use Rattle.csn1.specs.Grammar.{Grammar, number, numbers, low-high, ◌and◌, ◌then_by◌, flagged, listed, later, one_of, only_if, refuse, inside}

infixl 30 ◌on◌
-- a value and the next place, or that a test was not met
pub data Took (A : Type 0) : Type 0 where
  took : A → ℕ → Took A
  unmet : Took A

abbrev pub ◌on◌ : {A B : Type 0} → Took A → (A → ℕ → Took B) → Took B
◌on◌ (took a q) f = f a q
◌on◌ unmet f = unmet

-- k bounds how many parts there are
unfoldable pub take_items : {A : Type 0} → (List ℕ → ℕ → Took A) → ℕ → List ℕ → ℕ → Took (List A)
take_items T zero s p = unmet
take_items T (suc k) s p = pick (eqb (field s p 1) 0) (took [] (p + 1)) (T s (p + 1) on λ a r. take_items T k s r on λ l t. took (a ∷ l) t)

-- what a grammar takes at a place
abbrev pub taken : {A : Type 0} → Grammar A → List ℕ → ℕ → Took A
taken (number w) s p = took (field s p w) (p + w)
taken (numbers ws) s p = took (fields_at ws s p) (p + total ws)
taken low-high s p = took (pick (eqb (field s p 1) (pad_bit p)) 0 1) (p + 1)
taken (◌and◌ f g) s p = taken f s p on λ a q. taken g s q on λ b r. took (a, b) r
taken (◌then_by◌ f g) s p = taken f s p on λ a q. taken (g a) s q on λ b r. took (a, b) r
taken (flagged f) s p = pick (eqb (field s p 1) 0) (took none (p + 1)) (taken f s (p + 1) on λ a r. took (some a) r)
taken (listed f) s p = take_items (λ t q. taken f t q) (length s * 8 + 1) s p
taken (later f) s p =
    pick (eqb p (length s * 8)) (took none p)
    (pick (eqb (field s p 1) (pad_bit p)) (took none (p + 1)) (taken f s (p + 1) on λ a r. took (some a) r))
taken (one_of f g) s p = pick (eqb (field s p 1) 0) (taken f s (p + 1) on λ a r. took (inl a) r) (taken g s (p + 1) on λ b r. took (inr b) r)
taken (only_if t f) s p = pick t (taken f s p on λ a q. took (some a) q) (took none p)
taken (refuse m t f) s p = taken f s p on λ a q. pick (t a) (took a q) unmet
taken (inside m f) s p = taken f s p

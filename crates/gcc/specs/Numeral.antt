-- A number and its digits in a base, the highest first. Octets are the digits of base 256 with 0 for zero; decimal digits in IA5 characters
-- are those of base 10 with 48 (30 hex) for zero. Assumes nothing.
use Rattle.std.specs.Prelude.{List, [], ◌∷◌, ℕ, zero, suc, ◌+◌, ◌-◌, ◌*◌, ◌/◌, ◌%◌, ◌^◌, ◌≤◌, ◌<◌, length, get_or}

-- the last k digits of n in the base b, each added to z
unfoldable pub spell : ℕ → ℕ → ℕ → ℕ → List ℕ
spell b z zero n = []
spell b z (suc k) n = (z + n / b ^ k % b) ∷ spell b z k n

-- the number that digits spell in the base b, behind those of a
unfoldable pub worth : ℕ → ℕ → ℕ → List ℕ → ℕ
worth b z a [] = a
worth b z a (d ∷ l) = worth b z (a * b + (d - z)) l

-- each is a digit of the base b, added to z
abbrev pub Spells : ℕ → ℕ → List ℕ → Type 0
Spells b z l = (i : ℕ) → i < length l → (z ≤ get_or l i 0) × (get_or l i 0 < z + b)

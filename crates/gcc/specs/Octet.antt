-- What the elements share: bits as 44.068 numbers them, and the meaning that a table gives a number. Assumes nothing.
use Rattle.std.specs.Prelude.{List, [], ◌∷◌, Bool, true, false, ℕ, ◌-◌, ◌/◌, ◌%◌, ◌^◌, leb, eqb}
use Rattle.bits.specs.Field.{pick, both}

-- whether bit n is set: bit 8 is the highest of an octet, bit 1 the lowest
unfoldable pub is_set : ℕ → ℕ → Bool
is_set n o = eqb (o / 2 ^ (n - 1) % 2) 1

-- a bit as a number
abbrev pub unit : Bool → ℕ
unit true = 1
unit false = 0

-- the first of these meanings whose number is n, or else the other
abbrev pub with_number : {A : Type 0} → (A → ℕ) → List A → A → ℕ → A
with_number number [] other n = other
with_number number (a ∷ l) other n = pick (eqb n (number a)) a (with_number number l other n)

-- each number is from lo to hi
unfoldable pub all_between : ℕ → ℕ → List ℕ → Bool
all_between lo hi [] = true
all_between lo hi (x ∷ l) = both (both (leb lo x) (leb x hi)) (all_between lo hi l)

-- Numbers in octets, the least significant octet first. Assumes nothing.
use Rattle.std.specs.Prelude.{List, [], ◌∷◌, Bool, not, ℕ, zero, suc, ◌+◌, ◌*◌, ◌/◌, ◌%◌, get_or, eqb}

-- the number in w octets from place at on
unfoldable pub le_at : ℕ → List ℕ → ℕ → ℕ
le_at zero l at = 0
le_at (suc w) l at = get_or l at 0 + le_at w l (at + 1) * 256

-- one octet, and one read as a flag: 0 is no, any other number yes
abbrev pub octet_at : List ℕ → ℕ → ℕ
octet_at l at = get_or l at 0

abbrev pub flag_at : List ℕ → ℕ → Bool
flag_at l at = not (eqb (get_or l at 0) 0)

-- the w lowest octets of x
unfoldable pub low_octets : ℕ → ℕ → List ℕ
low_octets zero x = []
low_octets (suc w) x = x % 256 ∷ low_octets w (x / 256)

-- f k, f (k + 1), .. of n places
unfoldable pub tabulate : {A : Type 0} → (ℕ → A) → ℕ → ℕ → List A
tabulate f k zero = []
tabulate f k (suc n) = f k ∷ tabulate f (suc k) n

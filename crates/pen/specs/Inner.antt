-- What only private functions' contracts speak of; nothing public rests on it. Assumes nothing.
use Rattle.std.specs.Prelude.{List, [], ◌∷◌, ◌++◌, ℕ, zero, suc, ◌+◌, ◌*◌, ◌/◌, ◌%◌}

-- the last n octets of a number
unfoldable pub digits : ℕ → ℕ → List ℕ
digits zero x = []
digits (suc n) x = digits n (x / 256) ++ (x % 256 ∷ [])

-- n octets of padding as one number
unfoldable pub pads : ℕ → ℕ
pads zero = 0
pads (suc n) = pads n * 256 + 43

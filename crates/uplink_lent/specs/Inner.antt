-- What only private functions' contracts speak of: the four octets of a number. Assumes nothing.
use Rattle.std.specs.Prelude.{◌≡◌, List, [], ◌∷◌, ℕ, ◌+◌, ◌*◌, ◌/◌, ◌%◌, get_or}

-- the most significant first, and the other way round
abbrev pub four_octets : ℕ → List ℕ
four_octets v = v / 16777216 ∷ v / 65536 % 256 ∷ v / 256 % 256 ∷ v % 256 ∷ []

abbrev pub low_octets : ℕ → List ℕ
low_octets v = v % 256 ∷ v / 256 % 256 ∷ v / 65536 % 256 ∷ v / 16777216 ∷ []

-- the number whose octets are those of v in the other order
abbrev pub turned : ℕ → ℕ
turned v = v / 16777216 + v / 65536 % 256 * 256 + v / 256 % 256 * 65536 + v % 256 * 16777216

-- the four octets from a place on
abbrev pub Four : List ℕ → ℕ → ℕ → ℕ → ℕ → ℕ → Type 0
Four l i a b c d = (get_or l i 0 ≡ a) × ((get_or l (i + 1) 0 ≡ b) × ((get_or l (i + 2) 0 ≡ c) × (get_or l (i + 3) 0 ≡ d)))

-- v stands at a place, the most significant octet first, or the other way round
abbrev pub Stands : List ℕ → ℕ → ℕ → Type 0
Stands l i v = Four l i (v / 16777216) (v / 65536 % 256) (v / 256 % 256) (v % 256)

abbrev pub StandsTurned : List ℕ → ℕ → ℕ → Type 0
StandsTurned l i v = Four l i (v % 256) (v / 256 % 256) (v / 65536 % 256) (v / 16777216)

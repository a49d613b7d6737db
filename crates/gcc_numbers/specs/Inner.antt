-- What only private functions' contracts speak of; nothing public rests on it. Assumes nothing.
use Rattle.std.specs.Prelude.{List, ℕ, ◌≤◌, get_or}
use Rattle.arrays.specs.Limits.{octet}

-- each number is an octet
abbrev pub AllOctets : List ℕ → Type 0
AllOctets ns = (k : ℕ) → get_or ns k 0 ≤ octet

-- each from a place on is
abbrev pub OctetsFrom : ℕ → List ℕ → Type 0
OctetsFrom at ns = (k : ℕ) → at ≤ k → get_or ns k 0 ≤ octet

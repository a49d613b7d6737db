-- What the fields of a record can hold. Assumes nothing.
use Rattle.std.specs.Prelude.{List, [], ◌∷◌, ◌++◌, Bool, true, ℕ, zero, suc, leb}
use Rattle.bits.specs.Field.{both}

-- no number is above the largest that its field holds
unfoldable pub within : List ℕ → List ℕ → Bool
within [] most = true
within (n ∷ ns) [] = true
within (n ∷ ns) (m ∷ most) = both (leb n m) (within ns most)

-- the largest number of a flag, an octet, 32 bits and 64 bits
abbrev pub flag : ℕ
flag = 1

abbrev pub octet : ℕ
octet = 255

abbrev pub word : ℕ
word = 4294967295

abbrev pub long : ℕ
long = 18446744073709551615

-- the largest numbers of n parts, one behind the other
abbrev pub times : ℕ → List ℕ → List ℕ
times zero most = []
times (suc n) most = most ++ times n most

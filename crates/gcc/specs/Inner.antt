-- What only private functions' contracts speak of; nothing public rests on it. Assumes nothing.
use Rattle.std.specs.Prelude.{List, [], ◌∷◌, ◌++◌, ℕ, suc, ◌+◌, length, take, drop, leb}
use Rattle.bits.specs.Field.{pick}
use Rattle.gcc.specs.declared.digits.Four.{Four}

-- the place of the octet that closes a cause, or the length
unfoldable pub closing : List ℕ → ℕ
closing [] = 0
closing (o ∷ s) = pick (leb 128 o) 0 (suc (closing s))

-- d with s in place of what stands there from at on
unfoldable pub copied : List ℕ → ℕ → List ℕ → List ℕ
copied d at s = take at d ++ s ++ drop (at + length s) d

-- four digits in the order they are written in
abbrev pub four_of : Four → List ℕ
four_of f = f.thousands ∷ f.hundreds ∷ f.tens ∷ f.ones ∷ []

-- Twenty octets as words in an array, and the 64 bits from a place on. Assumes nothing.
use Rattle.std.specs.Prelude.{List, [], ◌∷◌, ℕ, ◌+◌, ◌-◌, ◌*◌, ◌/◌, ◌%◌, ◌^◌, length, get_or, eqb}
use Rattle.bits.specs.Field.{field, pick}

-- two words and a half, and zeros behind them; of other octets zeros alone
unfoldable pub words_of : List ℕ → List ℕ
words_of s = pick (eqb (length s) 20) (field s 0 64 ∷ field s 64 64 ∷ field s 128 64 ∷ 0 ∷ 0 ∷ []) (0 ∷ 0 ∷ 0 ∷ 0 ∷ 0 ∷ [])

-- the last 64 - k bits of x and the first k of y, each of 64 bits
abbrev pub spanned : ℕ → ℕ → ℕ → ℕ
spanned x y k = x * 2 ^ k % 2 ^ 64 + y / 2 / 2 ^ (63 - k)

-- the 64 bits from p on of the first four words and the one behind them
unfoldable pub window_of : List ℕ → ℕ → ℕ
window_of w p = spanned (get_or w (p / 64 % 4) 0) (get_or w (p / 64 % 4 + 1) 0) (p % 64)

-- What is promised of numbers as text, and of lines. proofs/Promises proves each. Assumes nothing.
use Rattle.std.specs.Prelude.{None, ◌≡◌, List, ℕ, ◌<◌, ◌≤◌, ◌^◌, length, get_or}
use Rattle.text.specs.Lines.{added, full, with_behind}
use Rattle.text.specs.Digits.{decimal, hexadecimal, number_spelled}

-- ## The number read back from its digits is the number

abbrev pub ADecimalNumberIsReadBack : Type 0
ADecimalNumberIsReadBack = (n : ℕ) → n < 2 ^ 64 → number_spelled 10 0 (decimal n) ≡ n

abbrev pub AHexadecimalNumberIsReadBack : Type 0
AHexadecimalNumberIsReadBack = (least n : ℕ) → n < 2 ^ 64 → number_spelled 16 0 (hexadecimal least n) ≡ n

-- ## Only zero begins with 0

abbrev pub NoNumberAboveZeroBeginsWithZero : Type 0
NoNumberAboveZeroBeginsWithZero = (n : ℕ) → 0 < n → n < 2 ^ 64 → 48 < get_or (decimal n) 0 0

-- ## How much room a number takes, whatever it is

abbrev pub TwentyOctetsHoldANumber : Type 0
TwentyOctetsHoldANumber = (n : ℕ) → length (decimal n) ≤ 20

-- ## What did not fit is not passed over: a line that is full stays so

abbrev pub AFullLineStaysFull : Type 0
AFullLineStaysFull = (s l : List ℕ) → length l < full → added s (record { octets = l; at = full }) ≡ record { octets = l; at = full }

-- the same of the lines that the programs print with: one without a place is full, and whatever is put behind it leaves its octets as they are, and it stays without
abbrev pub ALineWithoutAPlaceStaysFull : Type 0
ALineWithoutAPlaceStaysFull = (s l : List ℕ) → with_behind s (record { octets = l; at = None }) ≡ record { octets = l; at = None }

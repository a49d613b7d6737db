-- Numbers as digits, the most significant first, and what digits are worth. Assumes nothing.
use Rattle.std.specs.Prelude.{Option as CodeOption, Some, None, Bool, true, cond, List, [], ◌∷◌, ◌++◌, ℕ, zero, suc, ◌+◌, ◌-◌, ◌*◌, ◌/◌, ◌%◌, min, length, ltb, leb}

-- the ASCII code of a digit below 16: `0` to `9`, then `a` to `f`
abbrev pub hex_digit_ascii : ℕ → ℕ
hex_digit_ascii d = cond (ltb d 10) (48 + d) (87 + d)

-- whether there are digits before the last: more than one is asked for, or the number is not below the base
abbrev pub more : ℕ → ℕ → ℕ → Bool
more b least n = cond (ltb 1 least) true (leb b n)

-- the digits of n in base b: at least `least`, and at most k. Each is its ASCII code
unfoldable pub numeral : ℕ → ℕ → ℕ → ℕ → List ℕ
numeral b zero least n = []
numeral b (suc k) least n = cond (more b least n) (numeral b k (least - 1) (n / b)) [] ++ (hex_digit_ascii (n % b) ∷ [])

-- every number of 64 bits has at most twenty decimal digits, and sixteen hexadecimal ones
abbrev pub decimal : ℕ → List ℕ
decimal n = numeral 10 20 0 n

abbrev pub hexadecimal : ℕ → ℕ → List ℕ
hexadecimal least n = numeral 16 16 least n

-- what a digit is worth, or 16 where a character is none
unfoldable pub value : ℕ → ℕ
value c = cond (ltb c 48) 16 (cond (leb c 57) (c - 48) (cond (ltb c 97) 16 (cond (leb c 102) (c - 87) 16)))

-- the same of a digit alone: none of a character that is none
abbrev pub digit_value : ℕ → CodeOption ℕ
digit_value c = cond (ltb (value c) 16) (Some (value c)) None

-- the number that digits spell in base b, behind those of a
unfoldable pub number_spelled : ℕ → ℕ → List ℕ → ℕ
number_spelled b a [] = a
number_spelled b a (c ∷ s) = number_spelled b (a * b + value c) s

-- the octet that two digits spell; a character that is no digit counts as 0
abbrev pub octet_of : ℕ → ℕ → ℕ
octet_of c d = value c % 16 * 16 + value d % 16

-- those that pairs of digits spell; a digit without another spells none
unfoldable pub octets_of : List ℕ → List ℕ
octets_of [] = []
octets_of (c ∷ []) = []
octets_of (c ∷ d ∷ s) = octet_of c d ∷ octets_of s

-- how many of them there is room for
abbrev pub pairs : List ℕ → List ℕ → ℕ
pairs digits octets = min (length octets) (length digits / 2)

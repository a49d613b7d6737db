-- Compressed otdi (44.068, 9.4.8), five octets. Assumes nothing.
use Rattle.std.specs.Prelude.{List, [], ◌∷◌, ℕ, length, replicate, leb, eqb}
use Rattle.bits.specs.Field.{pick, first_due}
use Rattle.gcc.specs.Octet.{all_between}
use Rattle.gcc.specs.Numeral.{worth, spell}
use Rattle.gcc.specs.declared.digits.Reading.{Reading}

abbrev pub refused : ℕ → Reading
refused m = record { refusal = m; digits = replicate 12 0 }

-- the decimal representation with leading zeros, each digit one octet; a number of more than twelve digits is 12
abbrev pub told : ℕ → Reading
told n = pick (leb n 999999999999) (record { refusal = 0; digits = spell 10 48 12 n }) (refused 12)

-- bit 8 of octet 1 is the most significant bit of the integer, and bit 1 of octet 5 the least
unfoldable pub read_of : List ℕ → Reading
read_of s = pick (eqb (length s) 5) (told (worth 256 0 0 s)) (refused 13)

-- 0 where the digits are written: other than twelve are 13, then one that is not 30 to 39 hex is 12, then a buffer of other than five octets is 11
unfoldable pub write_number : List ℕ → ℕ → ℕ
write_number ds size = first_due ((eqb (length ds) 12, 13) ∷ (all_between 48 57 ds, 12) ∷ (eqb size 5, 11) ∷ [])

-- what the buffer then holds
unfoldable pub write_to : List ℕ → List ℕ → List ℕ
write_to ds buf = pick (eqb (write_number ds (length buf)) 0) (spell 256 0 5 (worth 10 48 0 ds)) buf

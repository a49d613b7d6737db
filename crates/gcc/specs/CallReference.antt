-- Call reference (44.068, 9.4.1), four octets. Assumes nothing.
use Rattle.std.specs.Prelude.{◌≡◌, List, [], ◌∷◌, not, ℕ, ◌+◌, ◌*◌, ◌/◌, ◌%◌, length, leb, eqb}
use Prim.Native.String.{String}
use Rattle.bits.specs.Field.{pick, first_due}
use Rattle.gcc.specs.Octet.{with_number}
use Rattle.gcc.specs.Numeral.{worth, spell}
use Rattle.gcc.specs.declared.call_reference.Priority.{Priority}
use Rattle.gcc.specs.declared.call_reference.Priority.TheVariants.{Absent, Reserved, Level4, Level3, Level2, Level1, Level0, LevelB, LevelA}
use Rattle.gcc.specs.declared.call_reference.Reading.{Reading}

-- <call reference> ::= reference { 0 spare_4 | 1 { priority spare_1 } }
-- table 9.2: the five bits behind the reference, the spare ones zero, and the priority
abbrev pub table : Priority → ℕ × String
table Absent = (0b0_0000, "")
table Reserved = (0b1_000_0, "reserved")
table Level4 = (0b1_001_0, "priority level 4")
table Level3 = (0b1_010_0, "priority level 3")
table Level2 = (0b1_011_0, "priority level 2")
table Level1 = (0b1_100_0, "priority level 1")
table Level0 = (0b1_101_0, "priority level 0")
table LevelB = (0b1_110_0, "priority level B")
table LevelA = (0b1_111_0, "priority level A")

abbrev pub number_of : Priority → ℕ
number_of p = (table p).0

abbrev pub priorities : List Priority
priorities = Absent ∷ Level4 ∷ Level3 ∷ Level2 ∷ Level1 ∷ Level0 ∷ LevelB ∷ LevelA ∷ []

unfoldable pub priority_of : ℕ → Priority
priority_of n = with_number number_of priorities Reserved n

-- the element's 32 bits with the spare ones zero
unfoldable pub without_spare : ℕ → ℕ
without_spare n = pick (eqb (n / 16 % 2) 0) (n / 16 * 16) (n / 2 * 2)

abbrev pub refused : ℕ → Reading
refused m = record { refusal = m; reference = 0; priority = Absent }

-- what the element's 32 bits say; a reference above 99,999,999 is 4
abbrev pub told : ℕ → Reading
told n = pick (leb (n / 32) 99999999) (record { refusal = 0; reference = n / 32; priority = priority_of (without_spare n % 32) }) (refused 4)

unfoldable pub read_of : List ℕ → Reading
read_of s = pick (eqb (length s) 4) (told (worth 256 0 0 s)) (refused 13)

-- 0 where the element is written: a reference of more than 27 bits and reserved are 12, then a reference above 99,999,999 is 4, then a
-- buffer of other than four octets is 11
unfoldable pub write_number : ℕ → Priority → ℕ → ℕ
write_number reference p size =
    first_due
    ((leb reference 134217727, 12)
    ∷ (not (eqb (number_of p) 0b1_000_0), 12)
    ∷ (leb reference 99999999, 4)
    ∷ (eqb size 4, 11)
    ∷ [])

-- what the buffer then holds
unfoldable pub write_to : ℕ → Priority → List ℕ → List ℕ
write_to reference p buf = pick (eqb (write_number reference p (length buf)) 0) (spell 256 0 4 (reference * 32 + number_of p)) buf

-- the octets' last five bits, the spare ones taken for zero, are not those of the reserved code
abbrev pub Assigned : List ℕ → Type 0
Assigned s = without_spare (worth 256 0 0 s) % 32 ≡ 0b1_000_0 → ⊥

-- the octets with their spare bits zero
abbrev pub spare_zero : List ℕ → List ℕ
spare_zero s = spell 256 0 4 (without_spare (worth 256 0 0 s))

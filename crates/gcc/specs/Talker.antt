-- Talker priority (44.068, 9.4.9), a half octet. Assumes nothing.
use Rattle.std.specs.Prelude.{List, [], ◌∷◌, ℕ, ◌%◌, leb}
use Prim.Native.String.{String}
use Rattle.bits.specs.Field.{pick}
use Rattle.gcc.specs.Octet.{with_number}
use Rattle.gcc.specs.declared.talker.Priority.{Priority}
use Rattle.gcc.specs.declared.talker.Priority.TheVariants.{Normal, Privileged, Emergency}
use Rattle.gcc.specs.declared.talker.Reading.{Reading}

-- table 9.8: bits 3 to 1, and the priority
abbrev pub table : Priority → ℕ × String
table Normal = (0, "Normal priority")
table Privileged = (1, "Privileged priority")
table Emergency = (2, "Emergency priority")

abbrev pub number_of : Priority → ℕ
number_of p = (table p).0

abbrev pub priorities : List Priority
priorities = Normal ∷ Privileged ∷ Emergency ∷ []

-- 3 to 7 are not used, and read as normal
unfoldable pub priority_of : ℕ → Priority
priority_of n = with_number number_of priorities Normal n

-- <talker priority> ::= spare_1 talker_priority
unfoldable pub read_of : ℕ → Reading
read_of h = pick (leb h 15) (record { refusal = 0; priority = priority_of (h % 8) }) (record { refusal = 12; priority = Normal })

-- the half octet with its spare bit zero
abbrev pub spare_zero : ℕ → ℕ
spare_zero h = h % 8

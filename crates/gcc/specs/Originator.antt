-- Originator indication (44.068, 9.4.4), a half octet. Assumes nothing.
use Rattle.std.specs.Prelude.{Bool, false, ℕ, ◌%◌, leb}
use Rattle.bits.specs.Field.{pick}
use Rattle.gcc.specs.Octet.{is_set, unit}
use Rattle.gcc.specs.declared.originator.Reading.{Reading}

-- <originator indication> ::= spare_3 OI
-- table 9.5, OI: the MS is the originator of the call
unfoldable pub read_of : ℕ → Reading
read_of h = pick (leb h 15) (record { refusal = 0; oi = is_set 1 h }) (record { refusal = 12; oi = false })

abbrev pub written_of : Bool → ℕ
written_of oi = unit oi

-- the half octet with its spare bits zero
abbrev pub spare_zero : ℕ → ℕ
spare_zero h = h % 2

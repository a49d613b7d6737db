-- State attributes (44.068, 9.4.7), a half octet with no spare bit. Assumes nothing.
use Rattle.std.specs.Prelude.{false, ℕ, ◌+◌, ◌*◌, leb}
use Rattle.bits.specs.Field.{pick}
use Rattle.gcc.specs.Octet.{is_set, unit}
use Rattle.gcc.specs.declared.state_attributes.Attributes.{Attributes}
use Rattle.gcc.specs.declared.state_attributes.Reading.{Reading}

-- <state attributes> ::= DA UA COMM OI
-- table 9.7, DA: user connection in the downlink attached; UA: in the uplink attached; COMM: COMM = T; OI: the MS is the originator of the call
abbrev pub attributes_of : ℕ → Attributes
attributes_of h = record { da = is_set 4 h; ua = is_set 3 h; comm = is_set 2 h; oi = is_set 1 h }

unfoldable pub read_of : ℕ → Reading
read_of h =
    pick (leb h 15) (record { refusal = 0; attributes = attributes_of h })
    (record { refusal = 12; attributes = record { da = false; ua = false; comm = false; oi = false } })

unfoldable pub written_of : Attributes → ℕ
written_of a = unit a.da * 8 + unit a.ua * 4 + unit a.comm * 2 + unit a.oi

-- SMS indications (44.068, 9.4.10), a half octet. Assumes nothing.
use Rattle.std.specs.Prelude.{false, ℕ, ◌+◌, ◌*◌, ◌%◌, leb}
use Rattle.bits.specs.Field.{pick}
use Rattle.gcc.specs.Octet.{is_set, unit}
use Rattle.gcc.specs.declared.sms.Indications.{Indications}
use Rattle.gcc.specs.declared.sms.Reading.{Reading}

-- <SMS indications> ::= spare_2 DC GP
-- table 9.9, DC: SMS data confidentiality required; GP: SMS guaranteed privacy required
unfoldable pub read_of : ℕ → Reading
read_of h =
    pick (leb h 15) (record { refusal = 0; indications = record { dc = is_set 2 h; gp = is_set 1 h } })
    (record { refusal = 12; indications = record { dc = false; gp = false } })

unfoldable pub written_of : Indications → ℕ
written_of i = unit i.dc * 2 + unit i.gp

-- the half octet with its spare bits zero
abbrev pub spare_zero : ℕ → ℕ
spare_zero h = h % 4

-- NOTIFICATION/FACCH (44.018, 9.1.21a) as one grammar term. Assumes nothing.
use Rattle.std.specs.Prelude.{List, [], ◌∷◌, Bool, ◌⊎◌, ℕ, ◌-◌, ◌*◌, length, get_or, leb}
use Rattle.std.proofs.Math.Option.{Option}
use Rattle.bits.specs.Field.{both, pick}
use Rattle.csn1.specs.Format.{Res, bad, ground, Format}
use Rattle.csn1.specs.Grammar.{Grammar, number, numbers, low-high, ◌and◌, ◌then_by◌, flagged, later, one_of, refuse, inside, format}
use Rattle.call.specs.Call.{CallValue, call_grammar}

-- Each part of a value has a name, beside the line of the grammar that reads it and in its order.

-- ## Paging Information

-- a mobile identity has 1 to 9 octets
abbrev pub one_to_nine : ℕ → Bool
one_to_nine n = both (leb 1 n) (leb n 9)

-- n octets, one field: the first, and the others as one number
abbrev pub octets : ℕ → Grammar (List ℕ)
octets n = numbers (8 ∷ 8 * (n - 1) ∷ [])

-- <mobile identity : <bit string>>: a length octet n, then n octets
abbrev pub identity : Grammar (ℕ × List ℕ)
identity = refuse 8 one_to_nine (number 8) then_by octets

abbrev pub length_octet : ℕ × List ℕ → ℕ
length_octet i = i.0

abbrev pub first_identity_octet : ℕ × List ℕ → ℕ
first_identity_octet i = get_or i.1 0 0

abbrev pub other_identity_octets : ℕ × List ℕ → ℕ
other_identity_octets i = get_or i.1 1 0

abbrev pub PagingValue : Type 0
PagingValue = (ℕ × List ℕ) × (ℕ × Option ℕ)

-- <Paging Information> ::= <mobile identity : <bit string>> <channel first: bit(2)> {0|1 <eMLPP priority : bit(3)>}
abbrev pub paging : Grammar PagingValue
paging = identity and number 2 and flagged (number 3)

abbrev pub mobile_identity : PagingValue → ℕ × List ℕ
mobile_identity p = p.0

abbrev pub channel_needed : PagingValue → ℕ
channel_needed p = p.1.0

abbrev pub emlpp_priority : PagingValue → Option ℕ
emlpp_priority p = p.1.1

-- ## The releases, from the bit behind the H on: bits that run out inside Release 6 are 14, and inside Release 7 they are 15

-- <CELL_GLOBAL_COUNT: bit (2)> <B22_COUNT: bit>
abbrev pub counts : Grammar (ℕ × ℕ)
counts = number 2 and number 1

abbrev pub cell_global_count : ℕ × ℕ → ℕ
cell_global_count c = c.0

abbrev pub b22_count : ℕ × ℕ → ℕ
b22_count c = c.1

abbrev pub Release6Value : Type 0
Release6Value = Option (ℕ × ℕ) × Option ℕ

-- {0 | 1 <CELL_GLOBAL_COUNT: bit (2)> <B22_COUNT: bit>} {0 | 1 <VSTK_RAND: bit (36)>}
abbrev pub release6 : Grammar Release6Value
release6 = inside 14 (flagged counts and flagged (number 36))

abbrev pub count_part : Release6Value → Option (ℕ × ℕ)
count_part v = v.0

abbrev pub vstk_rand : Release6Value → Option ℕ
vstk_rand v = v.1

abbrev pub Release7Value : Type 0
Release7Value = ℕ × (ℕ × Option ℕ)

-- <Priority Uplink Access: bit == L | bit == H> <Emergency_Ind: bit == L | bit == H> {0 | 1 <Paging Cause: bit (1)>}
-- (003's braces put Paging Cause outside; document 01 places it inside Release 7)
abbrev pub release7 : Grammar Release7Value
release7 = inside 15 (low-high and low-high and flagged (number 1))

abbrev pub uplink_access : Release7Value → ℕ
uplink_access v = v.0

abbrev pub emergency_ind : Release7Value → ℕ
emergency_ind v = v.1.0

abbrev pub paging_cause : Release7Value → Option ℕ
paging_cause v = v.1.1

-- ## The whole

abbrev pub Value : Type 0
Value = ℕ × ((CallValue ⊎ PagingValue) × (Option Release6Value × Option Release7Value))

-- <RR short PD: bit> <message type: bit(5)> <short layer 2 header: bit(2)>, which nobody looks at,
-- {0 <Group Call information> | 1 <Paging Information>} {null | L | H <Release 6>} {null | L | H <Release 7>} <spare padding>
abbrev pub message : Grammar Value
message = number 8 and one_of call_grammar paging and later release6 and later release7

abbrev pub first_octet : Value → ℕ
first_octet v = v.0

abbrev pub call_or_paging : Value → CallValue ⊎ PagingValue
call_or_paging v = v.1.0

abbrev pub release6_part : Value → Option Release6Value
release6_part v = v.1.1.0

abbrev pub release7_part : Value → Option Release7Value
release7_part v = v.1.1.1

unfoldable pub notification : Format Value
notification = format message

-- refusal 1: 2 to 23 octets
abbrev pub read_octets : List ℕ → Res Value
read_octets s = pick (both (leb 2 (length s)) (leb (length s) 23)) (notification.read s 0) (bad (ground 1))

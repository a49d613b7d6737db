-- Group Call information (44.018, 9.1.21a) as one grammar term, and the record that tells it. Assumes nothing.
use Rattle.std.specs.Prelude.{List, [], ◌∷◌, Bool, true, false, ◌⊎◌, ℕ, ◌*◌, ◌/◌, ◌%◌, ◌^◌, get_or, leb, eqb}
use Rattle.std.proofs.Math.Option.{Option, none, some}
use Rattle.std.proofs.Common.{inl, inr}
use Rattle.bits.specs.Field.{both, pick}
use Rattle.csn1.specs.Format.{Format}
use Rattle.csn1.specs.Grammar.{Grammar, number, numbers, ◌and◌, ◌then_by◌, flagged, one_of, only_if, refuse, format}
use Rattle.csn1.specs.Told.{is_there, there, is_one, as_bit}
use Rattle.call.specs.declared.Call.{Call}
use Rattle.call.specs.declared.Description.{Description}

-- ## The grammar, with the refusals of document 01 where they are met

-- Each part of a value has a name, beside the line of the grammar that reads it and in its order.

-- <Group Call Reference : bit(36)>: reference, service flag, acknowledgement flag, priority, cipher key number (24.008)
abbrev pub call_reference : List ℕ → ℕ
call_reference h = get_or h 0 0

abbrev pub service_flag : List ℕ → ℕ
service_flag h = get_or h 1 0

abbrev pub acknowledgement_flag : List ℕ → ℕ
acknowledgement_flag h = get_or h 2 0

abbrev pub call_priority : List ℕ → ℕ
call_priority h = get_or h 3 0

abbrev pub cipher_key_number : List ℕ → ℕ
cipher_key_number h = get_or h 4 0

-- no reference is above 99,999,999
abbrev pub low_reference : List ℕ → Bool
low_reference h = leb (call_reference h) 99999999

abbrev pub reference : Grammar (List ℕ)
reference = refuse 4 low_reference (numbers (27 ∷ 1 ∷ 1 ∷ 3 ∷ 4 ∷ []))

-- a Mobile Allocation has 1 to 8 octets
abbrev pub one_to_eight : ℕ → Bool
one_to_eight n = both (leb 1 n) (leb n 8)

-- <Mobile Allocation : <bit string>>: a length octet n, then n octets
abbrev pub allocation : Grammar (ℕ × ℕ)
allocation = refuse 3 one_to_eight (number 8) then_by λ n. number (8 * n)

abbrev pub allocation_length : ℕ × ℕ → ℕ
allocation_length a = a.0

abbrev pub allocation_octets : ℕ × ℕ → ℕ
allocation_octets a = a.1

-- {0 <Mobile Allocation> | 1 <Frequency Short List : bit(64)>}
abbrev pub frequencies : Grammar ((ℕ × ℕ) ⊎ ℕ)
frequencies = one_of allocation (number 64)

-- bit 11 of the Channel Description's 24 is the hopping bit (10.5.2.14b)
abbrev pub hopping_bit : ℕ → ℕ
hopping_bit c = c / 2 ^ 12 % 2

-- <Channel Description : bit(24)> and the hopping flag, which must say the same
abbrev pub channel_description : ℕ × ℕ → ℕ
channel_description v = v.0

abbrev pub hopping_flag : ℕ × ℕ → ℕ
hopping_flag v = v.1

abbrev pub agrees : ℕ × ℕ → Bool
agrees v = eqb (hopping_bit (channel_description v)) (hopping_flag v)

abbrev pub channel : Grammar (ℕ × ℕ)
channel = refuse 5 agrees (number 24 and number 1)

abbrev pub DescriptionValue : Type 0
DescriptionValue = (ℕ × ℕ) × Option ((ℕ × ℕ) ⊎ ℕ)

-- <Group Channel Description> ::= <Channel Description : bit(24)> {0 | 1 {0 <Mobile Allocation> | 1 <Frequency Short List>}}
abbrev pub description : Grammar DescriptionValue
description = channel then_by λ v. only_if (is_one (hopping_flag v)) frequencies

abbrev pub channel_part : DescriptionValue → ℕ × ℕ
channel_part d = d.0

abbrev pub frequency_part : DescriptionValue → Option ((ℕ × ℕ) ⊎ ℕ)
frequency_part d = d.1

abbrev pub CallValue : Type 0
CallValue = List ℕ × Option DescriptionValue

-- <Group Call information> ::= <Group Call Reference : bit(36)> {0|1 <Group Channel Description>}
abbrev pub call_grammar : Grammar CallValue
call_grammar = reference and flagged description

abbrev pub group_call_reference : CallValue → List ℕ
group_call_reference v = v.0

abbrev pub group_channel_description : CallValue → Option DescriptionValue
group_channel_description v = v.1

unfoldable pub group_call : Format CallValue
group_call = format call_grammar

-- ## The record of a call

abbrev pub no_description : Description
no_description = record { channel = 0; hopping = false; shortlist = false; length = 0; frequencies = 0 }

abbrev pub no_call : Call
no_call = record { reference = 0; vgcs = false; acknowledged = false; priority = 0; cipher = 0; hasDescription = false; description = no_description }

-- a description from its channel, its hopping flag and its frequencies
abbrev pub with_frequencies : ℕ → Bool → Option ((ℕ × ℕ) ⊎ ℕ) → Description
with_frequencies c h none = record { channel = c; hopping = h; shortlist = false; length = 0; frequencies = 0 }
with_frequencies c h (some (inl a)) = record { channel = c; hopping = h; shortlist = false; length = allocation_length a; frequencies = allocation_octets a }
with_frequencies c h (some (inr l)) = record { channel = c; hopping = h; shortlist = true; length = 0; frequencies = l }

abbrev pub description_of : Option DescriptionValue → Description
description_of none = no_description
description_of (some d) = with_frequencies (channel_description (channel_part d)) (is_one (hopping_flag (channel_part d))) (frequency_part d)

abbrev pub call_of : CallValue → Call
call_of v =
    record {
      reference = call_reference (group_call_reference v);
      vgcs = is_one (service_flag (group_call_reference v));
      acknowledged = is_one (acknowledgement_flag (group_call_reference v));
      priority = call_priority (group_call_reference v);
      cipher = cipher_key_number (group_call_reference v);
      hasDescription = is_there (group_channel_description v);
      description = description_of (group_channel_description v);
    }

-- ## And back: the value that a record says

abbrev pub frequencies_of : Description → (ℕ × ℕ) ⊎ ℕ
frequencies_of d = pick d.shortlist (inr d.frequencies) (inl (d.length, d.frequencies))

abbrev pub description_value : Description → DescriptionValue
description_value d = ((d.channel, as_bit d.hopping), there d.hopping (frequencies_of d))

abbrev pub call_value : Call → CallValue
call_value c =
    (c.reference ∷ as_bit c.vgcs ∷ as_bit c.acknowledged ∷ c.priority ∷ c.cipher ∷ [], there c.hasDescription (description_value c.description))

-- ## What others ask of a call

-- a call is ciphered where its cipher key number is not 0
abbrev pub ciphered : Call → Bool
ciphered c = leb 1 c.cipher

-- The kinds of the fields of Group Call information, laid out as call's grammar is. Assumes nothing.
use Rattle.std.specs.Prelude.{[], ◌∷◌}
use Rattle.trace.specs.Fields.{Kinds, one, row, pair, led, choice}
use Rattle.trace.specs.Names.{call_reference, service_flag, acknowledgement_flag, priority, cipher_key_number, channel_given, channel, hops, short_list, allocation_octets, allocation, frequency_short_list}

-- reference
abbrev pub reference_kinds : Kinds
reference_kinds = row (call_reference ∷ service_flag ∷ acknowledgement_flag ∷ priority ∷ cipher_key_number ∷ [])

-- allocation
abbrev pub allocation_kinds : Kinds
allocation_kinds = pair (one allocation_octets) (one allocation)

-- frequencies
abbrev pub frequency_kinds : Kinds
frequency_kinds = choice short_list allocation_kinds (one frequency_short_list)

-- channel
abbrev pub channel_kinds : Kinds
channel_kinds = pair (one channel) (one hops)

-- description
abbrev pub description_kinds : Kinds
description_kinds = pair channel_kinds frequency_kinds

-- call_grammar
abbrev pub call_kinds : Kinds
call_kinds = pair reference_kinds (led channel_given description_kinds)

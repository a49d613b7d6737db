-- What a writer refuses in a call: one test for each number of document 01's table. Assumes nothing.
use Rattle.std.specs.Prelude.{List, Bool, true, false, not, ℕ, ◌+◌, ◌*◌, ◌^◌, length, leb, ltb, eqb}
use Rattle.bits.specs.Field.{both, pick}
use Rattle.csn1.specs.Format.{put_bits}
use Rattle.csn1.specs.Told.{as_bit}
use Rattle.call.specs.declared.Call.{Call}
use Rattle.call.specs.declared.Description.{Description}
use Rattle.call.specs.Call.{one_to_eight, hopping_bit, group_call, call_value}

-- ## 12: a field out of its range, or anything but zero in a part that is absent or a place that is not used

-- what stands behind the hopping flag
abbrev pub frequencies_in_range : Bool → Bool → ℕ → ℕ → Bool
frequencies_in_range false shortlist n f = both (not shortlist) (both (eqb n 0) (eqb f 0))
frequencies_in_range true true n f = both (ltb f (2 ^ 64)) (eqb n 0)
frequencies_in_range true false n f = ltb f (2 ^ (8 * n))

abbrev pub description_in_range : Description → Bool
description_in_range d = both (ltb d.channel (2 ^ 24)) (frequencies_in_range d.hopping d.shortlist d.length d.frequencies)

-- all of it is zero
abbrev pub description_is_zero : Description → Bool
description_is_zero d =
    both (eqb d.channel 0) (both (not d.hopping) (both (not d.shortlist) (both (eqb d.length 0) (eqb d.frequencies 0))))

abbrev pub head_in_range : Call → Bool
head_in_range c = both (ltb c.reference (2 ^ 27)) (both (ltb c.priority 8) (ltb c.cipher 16))

unfoldable pub call_in_range : Call → Bool
call_in_range c = both (head_in_range c) (pick c.hasDescription (description_in_range c.description) (description_is_zero c.description))

-- an unused place for a call
unfoldable pub call_is_zero : Call → Bool
call_is_zero c =
    both (eqb c.reference 0)
    (both (not c.vgcs)
    (both (not c.acknowledged)
    (both (eqb c.priority 0) (both (eqb c.cipher 0) (both (not c.hasDescription) (description_is_zero c.description))))))

-- ## 4: a reference above 99,999,999

unfoldable pub call_is_low : Call → Bool
call_is_low c = leb c.reference 99999999

-- ## 3: a mobile allocation's length not 1 to 8

abbrev pub allocates : Call → Bool
allocates c = both c.hasDescription (both c.description.hopping (not c.description.shortlist))

unfoldable pub call_length_right : Call → Bool
call_length_right c = pick (allocates c) (one_to_eight c.description.length) true

-- ## 5: the hopping bit unlike the hopping flag

unfoldable pub call_hops_right : Call → Bool
call_hops_right c = pick c.hasDescription (eqb (hopping_bit c.description.channel) (as_bit c.description.hopping)) true

-- ## The call as bits

-- how many bits its written form takes
unfoldable pub call_size : Call → ℕ
call_size c = length (group_call.bits 0 0 (call_value c))

-- it can be written, and the octets have the bits from p on
unfoldable pub can_put_call : List ℕ → ℕ → Call → Bool
can_put_call s p c =
    both (both (call_in_range c) (both (call_is_low c) (both (call_length_right c) (call_hops_right c))))
    (both (leb (length s) 4096) (leb (p + call_size c) (length s * 8)))

unfoldable pub after_put_call : List ℕ → ℕ → Call → List ℕ
after_put_call s p c = pick (can_put_call s p c) (put_bits s p (group_call.bits 0 0 (call_value c))) s

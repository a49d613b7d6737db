-- The halves that a receiver holds, as a host sees them. Assumes nothing.
use Rattle.std.specs.Prelude.{List, [], ◌∷◌, map, ℕ, suc, ◌-◌, get_or, ltb}
use Rattle.bits.specs.Field.{pick}
use Rattle.receiver.specs.declared.Slot.{Slot}
use Rattle.receiver.specs.declared.Receiver.{Receiver}
use Rattle.receiver.specs.Channels.{side_of, index_in}
use Rattle.receiver.specs.Model.{wrap_sub, timer_at, is_held}
use Rattle.layout.specs.Parts.{record_numbers}

-- ## Which

-- of the slots from a place on, those that hold a half, each with its place
abbrev pub held_from : ℕ → List Slot → List (ℕ × Slot)
held_from i [] = []
held_from i (s ∷ l) = pick (is_held s) ((i, s) ∷ held_from (suc i) l) (held_from (suc i) l)

unfoldable pub held_list : Receiver → List (ℕ × Slot)
held_list r = held_from 0 r.slots

-- ## For how long yet

-- the timer less the age at the receiver's tick: 0 where the age is the timer or more
abbrev pub left_of : Receiver → ℕ × Slot → ℕ
left_of r h = timer_at r h.0 - wrap_sub r.tick h.1.since

abbrev pub sooner : ℕ → ℕ → ℕ
sooner least left = pick (ltb left least) left least

abbrev pub least_of : ℕ → List ℕ → ℕ
least_of least [] = least
least_of least (left ∷ l) = least_of (sooner least left) l

-- what stands for none: 32 ones
abbrev pub no_expiry : ℕ
no_expiry = 4294967295

-- when the next half runs out
unfoldable pub least_left : Receiver → ℕ
least_left r = least_of no_expiry (map (left_of r) (held_list r))

-- ## As numbers

-- its subscription's key, its channel (0 NCH, 1 FACCH, 2 PCH), which half, for how long yet, its record
abbrev pub held_numbers : Receiver → ℕ × Slot → List ℕ
held_numbers r h = get_or r.keys (index_in h.0) 0 ∷ side_of h.0 ∷ h.1.half ∷ left_of r h ∷ record_numbers h.1.«record»

-- those of the n-th, counted from 0; none where there are not so many
unfoldable pub numbers_no : Receiver → ℕ → List ℕ
numbers_no r n = get_or (map (held_numbers r) (held_list r)) n []

-- The channels that notify: what tells them apart, and where their halves stand. Assumes nothing.
use Rattle.std.specs.Prelude.{Bool, true, false, List, [], ◌∷◌, ℕ, ◌+◌, ◌*◌, ◌/◌, ◌%◌, eqb}
use Rattle.bits.specs.Field.{pick}
use Rattle.receiver.specs.declared.Move.{Move}
use Rattle.receiver.specs.declared.Move.TheVariants.{Reselection, Handover, Reconfiguration, LeftIdle}

-- ## How many there are

abbrev pub channels : ℕ
channels = 3

abbrev pub key_count : ℕ
key_count = 50

abbrev pub places : ℕ
places = channels * key_count

-- the place of the subscription at an index on a channel, by the channel's number; and back
abbrev pub place_on : ℕ → ℕ → ℕ
place_on i ch = channels * i + ch

abbrev pub side_of : ℕ → ℕ
side_of i = i % channels

abbrev pub index_in : ℕ → ℕ
index_in i = i / channels

-- ## By number, as the receiver has them: 0 NCH, 1 FACCH, 2 PCH

-- one thing for each channel
abbrev pub by_number_of : {A : Type 0} → ℕ → A → A → A → A
by_number_of ch nch facch pch = pick (eqb ch 0) nch (pick (eqb ch 1) facch pch)

-- its halves are told apart by Segment Id too
abbrev pub asks : ℕ → Bool
asks ch = by_number_of ch true false false

-- a second half may come first
abbrev pub leads : ℕ → Bool
leads ch = by_number_of ch true false true

-- ## By name

pub data Channel : Type 0 where
  onNch onFacch onPch : Channel

-- all of them, in the order of their numbers
abbrev pub every_channel : List Channel
every_channel = onNch ∷ onFacch ∷ onPch ∷ []

abbrev pub number_of : Channel → ℕ
number_of onNch = 0
number_of onFacch = 1
number_of onPch = 2

abbrev pub by_channel : {A : Type 0} → Channel → A → A → A → A
by_channel onNch nch facch pch = nch
by_channel onFacch nch facch pch = facch
by_channel onPch nch facch pch = pch

-- only the NCH has an NLN
abbrev pub hasNln : Channel → Bool
hasNln c = by_channel c true false false

-- only on the PCH an entry costs the halves under other keys
abbrev pub has_pages : Channel → Bool
has_pages c = by_channel c false false true

-- ## What a move of the mobile costs: the halves of a channel, and what is known of the cell's NLN, of its count and of bit 22

abbrev pub drops : Channel → Move → Bool
drops c Reselection = by_channel c true false true
drops c Handover = by_channel c false true false
drops c Reconfiguration = by_channel c false true false
drops c LeftIdle = by_channel c false false true

abbrev pub forgets : Move → Bool
forgets Reselection = true
forgets Handover = false
forgets Reconfiguration = false
forgets LeftIdle = false

abbrev pub forgets_count : Move → Bool
forgets_count Reselection = true
forgets_count Handover = true
forgets_count Reconfiguration = false
forgets_count LeftIdle = false

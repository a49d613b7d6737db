-- What only private functions' contracts speak of; nothing public rests on it. Assumes nothing.
use Rattle.std.specs.Prelude.{◌≡◌, List, Bool, true, false, ℕ, ◌+◌, ◌-◌, ◌*◌, ◌≤◌, ◌<◌, length, get_or, eqb}
use Rattle.bits.specs.Field.{pick}
use Rattle.arrays.specs.Limits.{word}
use Rattle.nch.specs.Places.{first_call, call_length, most_calls, first_reduced, reduced_length, most_reduceds, most_marks}
use Rattle.nch.specs.CallNumbers.{call_from_of}
use Rattle.nch.specs.Inner.{CallFits, reduced_from, ReducedFits}
use Rattle.nch.specs.NotificationNumbers.{record_from}
use Rattle.receiver.specs.declared.Record.{Record}
use Rattle.receiver.specs.declared.Slot.{Slot}
use Rattle.receiver.specs.declared.Cell.{Cell}
use Rattle.receiver.specs.declared.Paged.{Paged}
use Rattle.receiver.specs.declared.Rule.{Rule}
use Rattle.receiver.specs.declared.Met.{Met}
use Rattle.receiver.specs.Model.{late, joined_of, only, meet_half, with_slots}
use Rattle.receiver.specs.Entries.{call_with, reduced_with}
use Rattle.receiver.specs.Step.{no_told, slots_after, told_of, all_after, all_told, accepted_with}
use Rattle.layout.specs.Layout.{is_state, record_at, record_octets, decode_of, keys_in, sets_in, told_no, last_of}
use Rattle.lent.specs.Events.{tell_octets, all_octets, accepted_octets, answered}

-- ## The entries of an NCH message by its numbers

-- the entry whose numbers stand at a place: a call, with the random entry and the mark at these places where it owns them, or a reduced reference
abbrev pub entry_from : List ℕ → Bool → ℕ → ℕ → ℕ → Record
entry_from ns full at random mark =
    pick full (call_with (record_from ns) random mark (call_from_of ns at)) (reduced_with (record_from ns) random (reduced_from ns at))

-- where the last call and the last reduced reference stand
abbrev pub last_call : ℕ
last_call = first_call + call_length * (most_calls - 1)

abbrev pub last_reduced : ℕ
last_reduced = first_reduced + reduced_length * (most_reduceds - 1)

-- its numbers fit their fields
pub record EntryFits (ns : List ℕ) (full : Bool) (at mark : ℕ) : Type 0 where
  pub there : at ≤ last_reduced
  pub reference : get_or ns at 0 ≤ word
  pub service : get_or ns (at + 1) 0 ≤ 1
  pub call : full ≡ true → CallFits ns at × ((at ≤ last_call) × (mark < most_marks))
  pub reduced : full ≡ false → ReducedFits ns at

-- ## An entry, and all of them, told in place

-- octets that are those of the record they are read as
abbrev pub Packed : List ℕ → Type 0
Packed o = o ≡ record_octets (record_at o 0)

-- a half that comes where one is held
abbrev pub met_half : ℕ → Slot → Record → Met
met_half half s e = meet_half half s e (pick (eqb half 1) (joined_of e s.«record») (joined_of s.«record» e)) (only 4 s)

-- what telling the j-th entry leaves, with what is known of the cell then, and what is read there
pub record Telling (l : List ℕ) (cell : Cell) (ch now j : ℕ) (e : Record) (left : List ℕ) : Type 0 where
  pub octets : left ≡ tell_octets l cell ch now j e
  pub places : decode_of left ≡ with_slots (decode_of l) (slots_after (keys_in l) ch now (decode_of l).slots e)
  pub told : told_no left j ≡ told_of (keys_in l) (sets_in l) cell ch now (decode_of l).slots e

-- what telling all of them leaves, and what is read there
pub record AllTold (l : List ℕ) (cell : Cell) (ch now : ℕ) (es : List Record) (left : List ℕ) : Type 0 where
  pub octets : left ≡ all_octets l cell ch now 0 es
  pub places : decode_of left ≡ with_slots (decode_of l) (all_after (keys_in l) ch now (decode_of l).slots es)
  pub told : (j : ℕ) → j < length es → told_no left j ≡ get_or (all_told (keys_in l) (sets_in l) cell ch now (decode_of l).slots es) j no_told

-- ## An event

-- what an accepted event leaves, and what is read there
pub record Accepted (l : List ℕ) (now : ℕ) (rule : Rule) (cell : Cell) (ch : ℕ) (es : List Record) (p : Paged) (left : List ℕ) : Type 0 where
  pub octets : left ≡ accepted_octets l now rule cell ch es p
  pub receiver : decode_of left ≡ (accepted_with (decode_of l) now rule cell ch es p).receiver
  pub answer : last_of left ≡ answered (accepted_with (decode_of l) now rule cell ch es p)

-- the number that comes before the event's own: 13, then 9
unfoldable pub early_code : List ℕ → ℕ → ℕ
early_code l time = pick (is_state l) (pick (late time (decode_of l).tick) 9 0) 13

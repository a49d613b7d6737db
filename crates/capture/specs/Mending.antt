-- A capture that is mended octet by octet: what is held between two octets is what replaying holds, and the present field's offset. Assumes nothing.
use Rattle.std.specs.Prelude.{◌≡◌, ℕ, suc, ◌+◌, ◌*◌, Bool, not, List, [], ◌∷◌, length, take, ◌==◌, nat_le, nat_lt}
use Rattle.std.specs.Prelude as prelude
use Rattle.bits.specs.Field.{both, pick}
use Rattle.text.specs.Lines.{Line, added, full, place_if}
use Rattle.capture.specs.declared.Mend.{Mend}
use Rattle.capture.specs.declared.Mended.{Mended}
use Rattle.capture.specs.Capture.{whole}
use Rattle.capture.specs.Replay.{is_over, said_of, input_ends}
use Rattle.capture.specs.Machine.{Machine, machine_of, kept_length, kept_with, ends, field_ended, took_one, is_ready, begun}
use Rattle.capture.specs.Mend.{left_text, further_by}

-- ## What is held

pub record Mending : Type 0 where
  pub machine : Machine
  pub offset : ℕ

abbrev pub mending_of : Mend → List ℕ → List ℕ → Mending
mending_of m kept l = record { machine = machine_of m.replay kept l; offset = m.offset }

-- ## One octet

unfoldable pub mended_one : Mending → ℕ → Mending
mended_one m o = record { machine = took_one m.machine o; offset = pick (ends m.machine o) (further_by m.offset (suc m.machine.got)) m.offset }

-- one line for what is copied, and one for the list
pub record Lines : Type 0 where
  pub copy : Line
  pub list : Line

-- a field is copied where it is not refused, else listed
unfoldable pub wrote : List ℕ → ℕ → ℕ → ℕ → Lines → Lines
wrote octets n offset refusal l =
    pick (refusal == 0) (record { copy = added octets l.copy; list = l.list }) (record { copy = l.copy; list = added (left_text n offset refusal) l.list })

abbrev pub refusal_one : Machine → ℕ → ℕ
refusal_one m o = (said_of (whole (field_ended m o)) m.stage).refusal

-- what is not refused is short, so that all of it is kept
abbrev pub with_field : Mending → ℕ → Lines → Lines
with_field m o l =
    pick (ends m.machine o) (wrote (take (suc m.machine.got) (kept_with m.machine o)) m.machine.number m.offset (refusal_one m.machine o) l) l

-- ## A piece

-- the most octets that one field has written: all that is kept of it, or three numbers of twenty digits
abbrev pub most_copied : ℕ
most_copied = kept_length

abbrev pub most_listed : ℕ
most_listed = 3 * 21

abbrev pub room_for : ℕ → Line → Bool
room_for most l = nat_le (l.at + most) (length l.octets)

abbrev pub have_room : Lines → Bool
have_room l = both (room_for most_copied l.copy) (room_for most_listed l.list)

-- what is held behind a piece, how many of its octets were taken, and the lines
pub record MendTaken : Type 0 where
  pub mending : Mending
  pub taken : ℕ
  pub lines : Lines

abbrev pub none_mended : Mending → Lines → MendTaken
none_mended m l = record { mending = m; taken = 0; lines = l }

-- n octets more
abbrev pub more_mended : ℕ → MendTaken → MendTaken
more_mended n t = record { mending = t.mending; taken = n + t.taken; lines = t.lines }

-- octets are taken while both lines have room for one field
unfoldable pub mended_by : Mending → List ℕ → Lines → MendTaken
mended_by m [] l = none_mended m l
mended_by m (o ∷ s) l = pick (have_room l) (more_mended 1 (mended_by (mended_one m o) s (with_field m o l))) (none_mended m l)

abbrev pub lines_of : List ℕ → List ℕ → Mended → Lines
lines_of copy list f = record { copy = record { octets = copy; at = f.copied }; list = record { octets = list; at = f.listed } }

-- What `mend` is proved to do: what it answers and leaves is what is held behind the piece.
pub record MendFed (m : Mending) (s : List ℕ) (l : Lines) (f : Mended) (kept state copy list : List ℕ) : Type 0 where
  pub taken : record { mending = mending_of f.mend kept state; taken = f.taken; lines = lines_of copy list f } ≡ pick (is_ready m.machine) (mended_by m s l) (none_mended m l)

-- ## The end

-- the line of a torn field, where one has begun
abbrev pub mend_ending : Mending → List ℕ
mend_ending m = pick (both (nat_lt 0 m.machine.got) (not (is_over m.machine.stage))) (left_text m.machine.number m.offset input_ends) []

-- a list without the room for a line is full
abbrev pub mend_ended_by : Mending → Line → Line
mend_ended_by m l = pick (room_for most_listed l) (added (mend_ending m) l) (record { octets = l.octets; at = full })

-- the place behind it, and none without that room
abbrev pub mend_place_ended : Mending → Line → prelude.Option ℕ
mend_place_ended m l = place_if (room_for most_listed l) (added (mend_ending m) l).at

-- ## The beginning

abbrev pub mend_begun : Mend
mend_begun = record { replay = begun; offset = 0 }

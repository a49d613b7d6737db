-- A capture that comes octet by octet: what is held between two octets, and what each octet makes of it. Assumes nothing.
use Rattle.std.specs.Prelude.{◌≡◌, ℕ, suc, ◌+◌, ◌*◌, Bool, not, List, [], ◌∷◌, length, take, drop, ◌==◌, nat_le, nat_lt, slice_index, slice_set}
use Rattle.std.specs.Prelude as prelude
use Rattle.std.proofs.Math.Option.{Option, none, some}
use Rattle.bits.specs.Field.{both, pick}
use Rattle.receiver.specs.Channels.{key_count}
use Rattle.receiver.specs.Step.{Event, most_entries}
use Rattle.layout.specs.Layout.{is_state, decode_of}
use Rattle.layout.specs.Setup.{setup_octets}
use Rattle.lent.specs.Events.{octets_after}
use Rattle.text.specs.Lines.{Line, added, full, place_if}
use Rattle.capture.specs.declared.Phase.{Phase}
use Rattle.capture.specs.declared.Phase.TheVariants.{Before, Running, Over}
use Rattle.capture.specs.declared.Replay.{Replay}
use Rattle.capture.specs.declared.Fed.{Fed}
use Rattle.capture.specs.Capture.{Field, whole, torn, head_length, length_in}
use Rattle.capture.specs.Replay.{times_length, setup_in, is_setup, keys_of, sets_of, event_in, Stage, before, running, over, is_over, said_of, stage_after, line_text, next_number}

-- ## What is held

-- of the present field the first so many octets: a setup of the most keys, and one octet more, so that a longer field is seen to be none
abbrev pub kept_length : ℕ
kept_length = head_length + (times_length + 4 * key_count + 1)

-- the number of the present field; where the run stands; how many octets of the present field came; the octets kept of it; the lent state
pub record Machine : Type 0 where
  pub number : ℕ
  pub stage : Stage
  pub got : ℕ
  pub kept : List ℕ
  pub state : List ℕ

-- the receiver is in the lent state
abbrev pub stage_in : Phase → List ℕ → Stage
stage_in Before l = before
stage_in Running l = running (decode_of l)
stage_in Over l = over

abbrev pub machine_of : Replay → List ℕ → List ℕ → Machine
machine_of r kept l = record { number = r.number; stage = stage_in r.phase l; got = r.got; kept = kept; state = l }

-- ## One octet

abbrev pub kept_with : Machine → ℕ → List ℕ
kept_with m o = slice_set m.kept m.got o

-- this octet is the last one of its field
abbrev pub is_last : List ℕ → ℕ → Bool
is_last kept got = both (nat_le head_length (suc got)) (nat_le (head_length + length_in kept) (suc got))

abbrev pub ends : Machine → ℕ → Bool
ends m o = both (not (is_over m.stage)) (is_last (kept_with m o) m.got)

-- the field that it ends, or its first octets where it is long
abbrev pub field_kept : List ℕ → ℕ → Field
field_kept kept got = record { tag = slice_index kept 0; contents = drop head_length (take (suc got) kept) }

abbrev pub field_ended : Machine → ℕ → Field
field_ended m o = field_kept (kept_with m o) m.got

-- the octets of the lent state behind a field
abbrev pub octets_by : List ℕ → Option Event → List ℕ
octets_by l none = l
octets_by l (some e) = octets_after l e

abbrev pub state_after : Field → Stage → List ℕ → List ℕ
state_after f before l = pick (both (f.tag == 0) (is_setup f.contents)) (setup_octets l (setup_in f.contents) (keys_of f.contents) (sets_of f.contents)) l
state_after f (running r) l = pick (f.tag == 0) l (octets_by l (event_in f))
state_after f over l = l

abbrev pub took_more : Machine → ℕ → Machine
took_more m o = record { number = m.number; stage = m.stage; got = suc m.got; kept = kept_with m o; state = m.state }

abbrev pub took_last : Machine → ℕ → Machine
took_last m o =
    record {
      number = next_number m.number;
      stage = stage_after (whole (field_ended m o)) m.stage;
      got = 0;
      kept = kept_with m o;
      state = state_after (field_ended m o) m.stage m.state;
    }

-- once the run is over octets are passed by
unfoldable pub took_one : Machine → ℕ → Machine
took_one m o = pick (is_over m.stage) m (pick (ends m o) (took_last m o) (took_more m o))

-- the text that is due with it
unfoldable pub text_one : Machine → ℕ → List ℕ
text_one m o = pick (ends m o) (line_text m.number (said_of (whole (field_ended m o)) m.stage)) []

-- ## A piece

-- the most octets that the text of a field has: four numbers of twenty digits, and two for each entry
abbrev pub most_text : ℕ
most_text = 4 * 21 + most_entries * (2 + 2 * 21)

abbrev pub has_room : Line → Bool
has_room l = nat_le (l.at + most_text) (length l.octets)

-- what is held behind a piece, how many of its octets were taken, and the line with the text behind it
pub record Taken : Type 0 where
  pub machine : Machine
  pub taken : ℕ
  pub line : Line

abbrev pub none_taken : Machine → Line → Taken
none_taken m l = record { machine = m; taken = 0; line = l }

-- n octets more
abbrev pub more : ℕ → Taken → Taken
more n t = record { machine = t.machine; taken = n + t.taken; line = t.line }

abbrev pub with_text : Machine → ℕ → Line → Line
with_text m o l = pick (ends m o) (added (text_one m o) l) l

-- octets are taken while the line has room for the text of a field
unfoldable pub fed_by : Machine → List ℕ → Line → Taken
fed_by m [] l = none_taken m l
fed_by m (o ∷ s) l = pick (has_room l) (more 1 (fed_by (took_one m o) s (with_text m o l))) (none_taken m l)

-- what is kept and lent has its length; else nothing is taken
abbrev pub is_ready : Machine → Bool
is_ready m = both (length m.kept == kept_length) (is_state m.state)

-- What `feed` is proved to do: what it answers and leaves is what is held behind the piece.
pub record Replayed (m : Machine) (s : List ℕ) (l : Line) (f : Fed) (kept state out : List ℕ) : Type 0 where
  pub taken :
      record { machine = machine_of f.replay kept state; taken = f.taken; line = record { octets = out; at = f.at } } ≡ pick (is_ready m) (fed_by m s l) (none_taken m l)

-- ## The end

-- the line of a torn field, where one has begun
abbrev pub ending : Machine → List ℕ
ending m = pick (both (nat_lt 0 m.got) (not (is_over m.stage))) (line_text m.number (said_of (torn (slice_index m.kept 0)) m.stage)) []

-- a line without the room for a field's text is full
abbrev pub ended_by : Machine → Line → Line
ended_by m l = pick (has_room l) (added (ending m) l) (record { octets = l.octets; at = full })

-- the place behind it, and none without that room
abbrev pub place_ended : Machine → Line → prelude.Option ℕ
place_ended m l = place_if (has_room l) (added (ending m) l).at

-- ## The beginning

-- no octet came, and the first field is the present one
abbrev pub begun : Replay
begun = record { number = 1; phase = Before; got = 0 }

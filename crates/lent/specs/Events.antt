-- Events in place: the octets that each leaves, exactly, and what they are read as. Assumes nothing.
use Rattle.std.specs.Prelude.{◌≡◌, List, [], ◌∷◌, ℕ, suc, length, ltb, eqb}
use Rattle.bits.specs.Field.{both, pick}
use Rattle.csn1.specs.Told.{code_of}
use Rattle.receiver.specs.declared.Record.{Record}
use Rattle.receiver.specs.declared.Receiver.{Receiver}
use Rattle.receiver.specs.declared.Cell.{Cell}
use Rattle.receiver.specs.declared.Paged.{Paged}
use Rattle.receiver.specs.declared.Answer.{Answer}
use Rattle.receiver.specs.declared.Rule.{Rule}
use Rattle.receiver.specs.declared.Met.{Met}
use Rattle.receiver.specs.Channels.{key_count, place_on, number_of}
use Rattle.receiver.specs.Model.{key_of, index_of, expired_of, dropped_of, meet_of}
use Rattle.receiver.specs.Step.{set_at, told_as, told_only, Event, Content, content_of, cell_after, rule_by, refusal_of, step_of}
use Rattle.layout.specs.Layout.{is_state, slot_no, decode_of, keys_in, sets_in, put_slot, Last, last_of, put_told, put_head}
use Rattle.layout.specs.Sweep.{swept_octets}

-- ## An entry: its place changes only where a half is stored (4) or joined (3), then its answer is written

abbrev pub after_meet : List ℕ → ℕ → Met → List ℕ
after_meet l i m = pick (both (ltb 2 m.number) (ltb m.number 5)) (put_slot l i m.held) l

abbrev pub met_octets : List ℕ → Cell → ℕ → ℕ → ℕ → ℕ → Met → List ℕ
met_octets l cell ch j i key m = put_told (after_meet l (place_on i ch) m) j (told_as (set_at (sets_in l) i) cell key m.number m.told)

-- with what is known of the cell then
abbrev pub tell_at : List ℕ → Cell → ℕ → ℕ → ℕ → ℕ → Record → List ℕ
tell_at l cell ch now j i e =
    pick (ltb i key_count) (met_octets l cell ch j i (key_of e.call) (meet_of ch now (slot_no l (place_on i ch)) e)) (put_told l j (told_only (key_of e.call) 0))

unfoldable pub tell_octets : List ℕ → Cell → ℕ → ℕ → ℕ → Record → List ℕ
tell_octets l cell ch now j e = tell_at l cell ch now j (index_of (keys_in l) (key_of e.call)) e

-- the entries of a message, in order
unfoldable pub all_octets : List ℕ → Cell → ℕ → ℕ → ℕ → List Record → List ℕ
all_octets l cell ch now j [] = l
all_octets l cell ch now j (e ∷ es) = all_octets (tell_octets l cell ch now j e) cell ch now (suc j) es

-- ## An event

abbrev pub accepted_octets : List ℕ → ℕ → Rule → Cell → ℕ → List Record → Paged → List ℕ
accepted_octets l now rule cell ch es p =
    put_head (all_octets (swept_octets now rule l) cell ch now 0 es) now cell (expired_of (decode_of l) now (decode_of l).slots) (dropped_of (decode_of l) now rule) (length es) p

-- the same of what is in an event
abbrev pub accepted_as_octets : List ℕ → ℕ → Content → List ℕ
accepted_as_octets l now x =
    accepted_octets l now (rule_by (decode_of l) x.cause) (cell_after (decode_of l).cell x.cause x.news) (number_of x.channel) x.entries x.paged

-- the answer by value, without its refusal and its receiver
abbrev pub answered : Answer → Last
answered a = record { expired = a.expired; dropped = a.dropped; count = a.count; entries = a.entries; paged = a.paged }

-- 13 goes before everything else
unfoldable pub event_code : List ℕ → Event → ℕ
event_code l e = pick (is_state l) (code_of (refusal_of (decode_of l) e)) 13

unfoldable pub octets_after : List ℕ → Event → List ℕ
octets_after l e = pick (eqb (event_code l e) 0) (accepted_as_octets l e.tick (content_of e.happening)) l

-- the receiver and the answer that must be read afterwards: those of the receiver by value
abbrev pub receiver_after : List ℕ → Event → Receiver
receiver_after l e = pick (eqb (event_code l e) 0) (step_of (decode_of l) e).receiver (decode_of l)

abbrev pub answer_after : List ℕ → Event → Last
answer_after l e = pick (eqb (event_code l e) 0) (answered (step_of (decode_of l) e)) (last_of l)

-- What an exported event is proved to do: what it returns, the octets at exit exactly, and that they are read as what the receiver by value gives.
pub record Fed (l : List ℕ) (e : Event) (left : List ℕ) (code : ℕ) : Type 0 where
  pub number : code ≡ event_code l e
  pub octets : left ≡ octets_after l e
  pub receiver : decode_of left ≡ receiver_after l e
  pub answer : last_of left ≡ answer_after l e

-- the octets that a call of an exported event left, and what it returned
pub record Returned : Type 0 where
  pub octets : List ℕ
  pub code : ℕ

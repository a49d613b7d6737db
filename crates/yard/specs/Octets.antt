-- The yard set's lent octets (docs/STATE.md): the receiver's state, then a place for each call; what any octets are read as, and what an event leaves, exactly. Assumes nothing.
use Rattle.std.specs.Prelude.{◌≡◌, List, ◌++◌, Bool, ℕ, zero, suc, ◌+◌, ◌*◌, length, take, drop, get_or, replicate, ltb, eqb}
use Rattle.std.proofs.Math.Option.{Option, none, some}
use Rattle.bits.specs.Field.{pick}
use Rattle.arrays.specs.Runs.{stored}
use Rattle.receiver.specs.declared.Told.{Told}
use Rattle.receiver.specs.declared.Setup.{Setup}
use Rattle.receiver.specs.Channels.{key_count}
use Rattle.receiver.specs.Model.{index_of, started_of}
use Rattle.receiver.specs.Step.{Event, content_of, most_entries, no_told, step_of}
use Rattle.layout.specs.Octets.{le_at, octet_at, tabulate}
use Rattle.layout.specs.Layout.{tick_from, state_length, told_place, told_length, told_at, carries, decode_of, keys_in, Last, last_of, fresh_octets}
use Rattle.layout.specs.Setup.{no_answer}
use Rattle.lent.specs.Events.{event_code, octets_after, answered}
use Rattle.yard.specs.Yard.{Shown, Yard, call_count, takes, leaves_all, leaves, yard_step, yard_right, yard_started}

-- ## What stands where

-- the tick of its last complete record has four octets, four are not used, then what it was told, as an entry of an answer
abbrev pub call_length : ℕ
call_length = 8 + told_length

abbrev pub yard_length : ℕ
yard_length = state_length + call_length * call_count

abbrev pub call_place : ℕ → ℕ
call_place i = state_length + call_length * i

-- other lengths are no yard set
abbrev pub is_yard : List ℕ → Bool
is_yard l = eqb (length l) yard_length

-- the receiver's state, and the calls behind it
abbrev pub inside : List ℕ → List ℕ
inside l = take state_length l

abbrev pub behind : List ℕ → List ℕ
behind l = drop state_length l

-- ## Reading

-- a place whose number told is not 1 to 3 has no call, whatever else stands there
unfoldable pub call_no : List ℕ → ℕ → Option Shown
call_no l i =
    pick (carries (octet_at l (call_place i + 16))) (some (record { since = le_at 4 l (call_place i); told = told_at l (call_place i + 8) })) none

-- the yard set that any octets are read as
unfoldable pub yard_of : List ℕ → Yard
yard_of l = record { receiver = decode_of (inside l); calls = tabulate (call_no l) 0 call_count }

-- ## A call leaves: its place is all zero

unfoldable pub left_at : Bool → ℕ → List ℕ → ℕ → List ℕ
left_at all now l i = pick (leaves all now (call_no l i)) (stored l (call_place i) (replicate call_length 0)) l

-- the first n places, one after the other
unfoldable pub left_run : Bool → ℕ → ℕ → List ℕ → List ℕ
left_run all now zero l = l
left_run all now (suc n) l = left_at all now (left_run all now n l) n

-- ## A call comes: its entry's octets and the receiver's tick are copied

unfoldable pub cut : List ℕ → ℕ → ℕ → List ℕ
cut l at n = take n (drop at l)

unfoldable pub put_call : List ℕ → ℕ → ℕ → List ℕ
put_call l i j = stored (stored l (call_place i) (cut l tick_from 4)) (call_place i + 8) (cut l (told_place j) told_length)

-- an entry of the last answer
abbrev pub entry_no : List ℕ → ℕ → Told
entry_no r j = get_or (last_of r).entries j no_told

-- the place for an entry: that of its key, where it has a complete record; else none
unfoldable pub place_for : List ℕ → ℕ → ℕ
place_for r j = pick (carries (entry_no r j).number) (index_of (keys_in r) (entry_no r j).key) key_count

unfoldable pub brought_at : List ℕ → ℕ → List ℕ
brought_at l j = pick (ltb (place_for (inside l) j) call_count) (put_call l (place_for (inside l) j) j) l

-- the first n entries, in order
unfoldable pub brought_run : ℕ → List ℕ → List ℕ
brought_run zero l = l
brought_run (suc n) l = brought_at (brought_run n l) n

-- ## An event

-- what the calls become when the receiver has had an accepted event
unfoldable pub settled : Bool → ℕ → List ℕ → List ℕ
settled all now l = brought_run most_entries (left_run all now call_count l)

-- whether all calls leave, by what was known of the cell before the event
abbrev pub all_leave : List ℕ → Event → Bool
all_leave l e = leaves_all (decode_of (inside l)).cell (content_of e.happening).cause

-- 13, then 19, then the receiver's own
unfoldable pub yard_code : List ℕ → Event → ℕ
yard_code l e = pick (is_yard l) (pick (takes e.happening) (event_code (inside l) e) 19) 13

unfoldable pub yard_octets : List ℕ → Event → List ℕ
yard_octets l e = pick (eqb (yard_code l e) 0) (settled (all_leave l e) e.tick (octets_after (inside l) e ++ behind l)) l

-- the answer that must be read afterwards: that of the receiver by value
abbrev pub last_after : List ℕ → Event → Last
last_after l e = pick (eqb (yard_code l e) 0) (answered (step_of (decode_of (inside l)) e)) (last_of (inside l))

-- What an exported event of the yard set is proved to do: what it returns, the octets at exit exactly, that the receiver's are those that the receiver itself
-- leaves, and that they are read as what the yard set by value gives.
pub record YardFed (l : List ℕ) (e : Event) (left : List ℕ) (code : ℕ) : Type 0 where
  pub number : code ≡ yard_code l e
  pub octets : left ≡ yard_octets l e
  pub receiver : inside left ≡ pick (eqb (yard_code l e) 0) (octets_after (inside l) e) (inside l)
  pub answer : last_of (inside left) ≡ last_after l e
  pub yard : yard_of left ≡ pick (eqb (yard_code l e) 0) (yard_step (yard_of l) e) (yard_of l)

-- ## A setup

-- 13 goes before 10
unfoldable pub yard_setup_code : List ℕ → Setup → List ℕ → List ℕ → ℕ
yard_setup_code l s keys groups = pick (is_yard l) (pick (yard_right keys) (started_of s keys groups).refusal.number 10) 13

unfoldable pub yard_setup_octets : List ℕ → Setup → List ℕ → List ℕ → List ℕ
yard_setup_octets l s keys groups = pick (eqb (yard_setup_code l s keys groups) 0) (fresh_octets s keys groups ++ replicate (call_length * call_count) 0) l

-- a setup's number and the octets at exit, and what they are read as where it was accepted
pub record YardSetUp (l : List ℕ) (s : Setup) (keys groups left : List ℕ) (code : ℕ) : Type 0 where
  pub number : code ≡ yard_setup_code l s keys groups
  pub octets : left ≡ yard_setup_octets l s keys groups
  pub yard : code ≡ 0 → yard_of left ≡ yard_started s keys groups
  pub answer : code ≡ 0 → last_of (inside left) ≡ no_answer

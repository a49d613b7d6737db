-- The yard set by value (document 02, §13): a receiver, and for each of its keys the call that is shown. It is written over the receiver's own step. Assumes nothing.
use Rattle.std.specs.Prelude.{List, [], ◌∷◌, ◌++◌, map, Bool, true, false, ℕ, ◌%◌, length, get_or, set, replicate, leb, eqb}
use Rattle.std.proofs.Math.Option.{Option, none, some}
use Rattle.bits.specs.Field.{both, pick}
use Rattle.csn1.specs.declared.Refusal.{Refusal}
use Rattle.csn1.specs.Format.{ground}
use Rattle.receiver.specs.declared.Receiver.{Receiver}
use Rattle.receiver.specs.declared.Cell.{Cell}
use Rattle.receiver.specs.declared.Told.{Told}
use Rattle.receiver.specs.declared.Answer.{Answer}
use Rattle.receiver.specs.declared.Setup.{Setup}
use Rattle.receiver.specs.declared.Move.{Move}
use Rattle.receiver.specs.declared.Move.TheVariants.{Reselection, Handover, Reconfiguration, LeftIdle}
use Rattle.receiver.specs.Model.{wrap_sub, keys_of, index_of, started_of}
use Rattle.receiver.specs.Step.{Event, Happening, heardNch, heardFacch, heard_pch, joins, moves, bit_is, passes, Cause, nothing, joining, paged, moving, numbered, content_of, changes, refusal_of, step_of}
use Rattle.layout.specs.Layout.{carries}
use Rattle.layout.specs.Parts.{told_numbers}

-- ## What is kept of a call

-- what it was told with its last complete record, and the tick of that event
pub record Shown : Type 0 where
  pub since : ℕ
  pub told : Told

-- a place for each key, in the order of the keys
pub record Yard : Type 0 where
  pub receiver : Receiver
  pub calls : List (Option Shown)

-- a yard set has so many keys at most
abbrev pub call_count : ℕ
call_count = 8

-- milliseconds without a complete record after which a call goes
abbrev pub call_timer : ℕ
call_timer = 30000

-- ## What is refused

-- the NCH alone is heard, and of the moves only a reselection is taken
abbrev pub takes_move : Move → Bool
takes_move Reselection = true
takes_move Handover = false
takes_move Reconfiguration = false
takes_move LeftIdle = false

abbrev pub takes : Happening → Bool
takes (heardNch s) = true
takes (heardFacch s) = false
takes (heard_pch ns) = false
takes (joins k) = true
takes (moves m) = takes_move m
takes (bit_is b) = true
takes passes = true

-- 19 goes before 9 and the rest
unfoldable pub yard_refusal : Receiver → Event → Refusal
yard_refusal r e = pick (takes e.happening) (refusal_of r e) (ground 19)

-- ## When calls leave

-- all of them, on reselection and where the NLN changes; the first NLN of a cell is no change
abbrev pub leaves_all : Cell → Cause → Bool
leaves_all l nothing = false
leaves_all l (joining k) = false
leaves_all l (paged k) = false
leaves_all l (moving m) = takes_move m
leaves_all l (numbered n) = changes l n

-- one, where so much time has passed since its last complete record
abbrev pub out_of : ℕ → Shown → Bool
out_of now s = leb call_timer (wrap_sub now s.since)

abbrev pub leaves : Bool → ℕ → Option Shown → Bool
leaves all now none = all
leaves all now (some s) = pick all true (out_of now s)

unfoldable pub left_call : Bool → ℕ → Option Shown → Option Shown
left_call all now c = pick (leaves all now c) none c

-- ## When calls come

-- an entry with a complete record takes the place of its key
unfoldable pub brought_in : List ℕ → ℕ → List (Option Shown) → Told → List (Option Shown)
brought_in keys now calls t = pick (carries t.number) (set calls (index_of keys t.key) (some (record { since = now; told = t }))) calls

-- the entries of an answer in order, so that the latest wins
unfoldable pub all_in : List ℕ → ℕ → List (Option Shown) → List Told → List (Option Shown)
all_in keys now calls [] = calls
all_in keys now calls (t ∷ ts) = all_in keys now (brought_in keys now calls t) ts

-- ## The step

-- time and the cell's changes come first, then the message's own entries
abbrev pub calls_after : Yard → Event → Answer → List (Option Shown)
calls_after y e a =
    all_in (keys_of y.receiver) e.tick (map (left_call (leaves_all y.receiver.cell (content_of e.happening).cause) e.tick) y.calls) a.entries

abbrev pub accepted_yard : Yard → Event → Yard
accepted_yard y e = record { receiver = (step_of y.receiver e).receiver; calls = calls_after y e (step_of y.receiver e) }

unfoldable pub yard_step : Yard → Event → Yard
yard_step y e = pick (eqb (yard_refusal y.receiver e).number 0) (accepted_yard y e) y

-- ## What is shown

-- what it was told, and for how many milliseconds by the receiver's tick
pub record Called : Type 0 where
  pub told : Told
  pub age : ℕ

abbrev pub called_at : ℕ → Shown → Called
called_at now s = record { told = s.told; age = wrap_sub now s.since }

-- the calls that are there, in the order of their keys
abbrev pub called_from : ℕ → List (Option Shown) → List Called
called_from now [] = []
called_from now (none ∷ cs) = called_from now cs
called_from now (some s ∷ cs) = called_at now s ∷ called_from now cs

unfoldable pub called_in : Yard → List Called
called_in y = called_from y.receiver.tick y.calls

-- an entry's numbers, and its age behind them
abbrev pub called_numbers : Called → List ℕ
called_numbers c = told_numbers c.told ++ (c.age ∷ [])

-- those of the n-th, counted from 0; none where there are not so many
unfoldable pub called_no : Yard → ℕ → List ℕ
called_no y n = get_or (map called_numbers (called_in y)) n []

-- ## Setup

abbrev pub no_calls : List (Option Shown)
no_calls = replicate call_count none

unfoldable pub all_even : List ℕ → Bool
all_even [] = true
all_even (k ∷ ks) = both (eqb (k % 2) 0) (all_even ks)

-- VBS keys only, and not more than there are places
unfoldable pub yard_right : List ℕ → Bool
yard_right keys = both (leb (length keys) call_count) (all_even keys)

abbrev pub yard_started : Setup → List ℕ → List ℕ → Yard
yard_started s keys groups = record { receiver = (started_of s keys groups).receiver; calls = no_calls }

-- What a yard set shows, worked out twice without any state of its own: from all accepted events and the receiver's answers to them, and from what each call's one-call
-- receiver sees. Shared with the yard set are only what it takes (takes, takes_move) and what an answer carries. Assumes nothing.
use Rattle.std.specs.Prelude.{List, [], ◌∷◌, Bool, false, ℕ, ◌+◌, take, ltb, eqb}
use Rattle.std.proofs.Math.Option.{Option, none, some}
use Rattle.bits.specs.Field.{both, pick}
use Rattle.nch.specs.Told.{read_of}
use Rattle.receiver.specs.declared.Receiver.{Receiver}
use Rattle.receiver.specs.Channels.{onNch}
use Rattle.receiver.specs.Step.{Event, Happening, heardNch, heardFacch, heard_pch, joins, moves, bit_is, passes, Cause, nothing, joining, paged, moving, numbered, step_of}
use Rattle.isolation.specs.One.{Said, Known, One, Seen, step_between, changed, step_one, step_said, fresh}
use Rattle.isolation.specs.Calls.{Reply, named}
use Rattle.isolation.specs.Promises.{under, reply_of}
use Rattle.layout.specs.Layout.{carries}
use Rattle.yard.specs.Yard.{takes, takes_move, yard_refusal, Called}

-- ## What is shown under a key

-- what the call was told, and the milliseconds since
pub record Current : Type 0 where
  pub said : Said
  pub age : ℕ

-- for 30,000 ms, and no longer
abbrev pub young : ℕ → Said → Option Current
young age w = pick (ltb age 30000) (some (record { said = w; age = age })) none

-- the last complete one of what is said to a call
abbrev pub or_else : Option Said → Option Said → Option Said
or_else none w = w
or_else (some v) w = some v

unfoldable pub latest_in : List Said → Option Said
latest_in [] = none
latest_in (w ∷ ws) = or_else (latest_in ws) (pick (carries w.number) (some w) none)

-- it wins over what was there before
abbrev pub found : Option Said → ℕ → Option Current → Option Current
found none age rest = rest
found (some w) age rest = young age w

-- the calls that are shown, by rising key where the keys rise
abbrev pub with_call : ℕ → Option Current → List Called → List Called
with_call key none rest = rest
with_call key (some c) rest = record { told = named key c.said; age = c.age } ∷ rest

unfoldable pub calls_of : (ℕ → Option Current) → List ℕ → List Called
calls_of f [] = []
calls_of f (k ∷ ks) = with_call k (f k) (calls_of f ks)

-- ## 1. From the accepted events and their answers, the latest first

-- an accepted event: milliseconds since the one before it, and the receiver's answer to it
pub record Moment : Type 0 where
  pub step : ℕ
  pub happening : Happening
  pub reply : Reply

-- the last NLN since the cell was entered
abbrev pub nln_by : Happening → Option ℕ → Option ℕ
nln_by (heardNch s) n = pick (read_of s).«record».hasNln (some (read_of s).«record».nln) n
nln_by (heardFacch s) n = n
nln_by (heard_pch ns) n = n
nln_by (joins k) n = n
nln_by (moves m) n = pick (takes_move m) none n
nln_by (bit_is b) n = n
nln_by passes n = n

unfoldable pub last_nln : List Moment → Option ℕ
last_nln [] = none
last_nln (m ∷ ms) = nln_by m.happening (last_nln ms)

-- an event that takes all calls away: a reselection, or another NLN than the last one
abbrev pub clears : Option ℕ → Happening → Bool
clears n (heardNch s) = both (read_of s).«record».hasNln (changed n (read_of s).«record».nln)
clears n (heardFacch s) = false
clears n (heard_pch ns) = false
clears n (joins k) = false
clears n (moves m) = takes_move m
clears n (bit_is b) = false
clears n passes = false

-- what a key is told by an answer
abbrev pub said_to : ℕ → Reply → List Said
said_to key a = under key (take a.count a.entries)

-- what is shown under a key when some time has passed since the latest moment: the last complete record that it was told, where nothing took the calls away since
unfoldable pub look_back : ℕ → ℕ → List Moment → Option Current
look_back key age [] = none
look_back key age (m ∷ ms) =
    found (latest_in (said_to key m.reply)) age (pick (clears (last_nln ms) m.happening) none (look_back key (age + m.step) ms))

-- the accepted events with the answers of a receiver that has them all, and no other
abbrev pub moment_of : Receiver → Event → Moment
moment_of r e = record { step = step_between r.tick e.tick; happening = e.happening; reply = reply_of (step_of r e) }

unfoldable pub moments_of : List Moment → Receiver → List Event → List Moment
moments_of past r [] = past
moments_of past r (e ∷ es) = pick (eqb (yard_refusal r e).number 0) (moments_of (moment_of r e ∷ past) (step_of r e).receiver es) (moments_of past r es)

-- ## 2. From what one call sees

-- a yard set of one call: its one-call receiver on the NCH, and what is shown
pub record Watch : Type 0 where
  pub one : One
  pub current : Option Current

abbrev pub older : ℕ → Option Current → Option Current
older d none = none
older d (some c) = young (c.age + d) c.said

abbrev pub clears_one : Known → Cause → Bool
clears_one l nothing = false
clears_one l (joining k) = false
clears_one l (paged k) = false
clears_one l (moving m) = takes_move m
clears_one l (numbered n) = changed l.nln n

-- it knows its key, its timer and its set of group keys, and no other call
module _ (key timer group : ℕ) where
  abbrev pub watch_step : Watch → Seen → Watch
  watch_step w v =
      record {
        one = step_one key onNch timer w.one v;
        current = found (latest_in (step_said key onNch timer group w.one v)) 0 (pick (clears_one w.one.cell v.sight.cause) none (older v.step w.current));
      }

  unfoldable pub watch_after : Watch → List Seen → Watch
  watch_after w [] = w
  watch_after w (v ∷ vs) = watch_after (watch_step w v) vs

abbrev pub fresh_watch : Watch
fresh_watch = record { one = fresh; current = none }

-- the events that a yard set takes
unfoldable pub taken : List Event → List Event
taken [] = []
taken (e ∷ es) = pick (takes e.happening) (e ∷ taken es) (taken es)

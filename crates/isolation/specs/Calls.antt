-- The answer to an event, put together from the receivers of the single calls. Written apart from the receiver, as One is: no place, no sweep and no step of it
-- is used. Beside what One shares with the receiver: the timer of a channel (by_channel), the subscribed keys (first_of), each with its set of group keys (set_at), how an answer
-- is laid out (Told, no_told), and who is paged by a message as it is read (paged_of, no_paged). Assumes nothing.
use Rattle.std.specs.Prelude.{List, [], ◌∷◌, Bool, ℕ, ◌+◌, ◌^◌, length, take, ltb}
use Rattle.std.proofs.Math.Option.{Option, none, some}
use Rattle.bits.specs.Field.{pick}
use Rattle.csn1.specs.declared.Refusal.{Refusal}
use Rattle.csn1.specs.Format.{no_refusal, ground}
use Rattle.csn1.specs.Told.{padded}
use Rattle.facch.specs.Told.{read_of as readFacch}
use Rattle.receiver.specs.declared.Record.{Record}
use Rattle.receiver.specs.declared.Paged.{Paged}
use Rattle.receiver.specs.declared.Told.{Told}
use Rattle.receiver.specs.declared.Setup.{Setup}
use Rattle.receiver.specs.Channels.{Channel, every_channel, by_channel}
use Rattle.receiver.specs.Halving.{first_of}
use Rattle.receiver.specs.Model.{no_record, no_paged, key_of, map_at}
use Rattle.receiver.specs.Entries.{paged_of}
use Rattle.receiver.specs.Step.{Event, Happening, heardNch, heardFacch, heard_pch, joins, moves, bit_is, passes, grounds_of, set_at, no_told}
use Rattle.isolation.specs.One.{Half, Known, One, Said, mine, listed_in, sight_of, step_between, accepts, seen, meet_one, held_after_of, known_then, said_by, spared, passed, one_after, fresh}

-- T3206 runs on the NCH, T3208 on the FACCH, T3210 on the PCH
abbrev pub timer_of : Channel → Setup → ℕ
timer_of c s = by_channel c s.t3206 s.t3208 s.t3210

-- the tick of the last accepted event
unfoldable pub clock_after : ℕ → List Event → ℕ
clock_after last [] = last
clock_after last (e ∷ es) = clock_after (pick (accepts last e) e.tick last) es

-- the entries of an event, and their channel
abbrev pub event_entries : Event → List Record
event_entries e = (listed_in e.happening).entries

abbrev pub channel_in : Event → Channel
channel_in e = (listed_in e.happening).channel

-- who is paged by an event: it goes by the event alone, and only a message of the FACCH pages somebody
abbrev pub paged_in : Happening → Paged
paged_in (heardNch s) = no_paged
paged_in (heardFacch s) = paged_of (readFacch s).«record»
paged_in (heard_pch ns) = no_paged
paged_in (joins k) = no_paged
paged_in (moves m) = no_paged
paged_in (bit_is b) = no_paged
paged_in passes = no_paged

-- 1 where a half was held and none is
abbrev pub lost : Option Half → Option Half → ℕ
lost none h = 0
lost (some g) none = 1
lost (some g) (some h) = 0

abbrev pub sum_over : {A : Type 0} → (A → ℕ) → List A → ℕ
sum_over f [] = 0
sum_over f (x ∷ xs) = f x + sum_over f xs

-- the sum over keys and channels
abbrev pub total_over : (ℕ → Channel → ℕ) → List ℕ → ℕ
total_over f keys = sum_over (λ key. sum_over (f key) every_channel) keys

abbrev pub subscribed : List ℕ → ℕ → Bool
subscribed keys key = ltb (first_of keys key) (length keys)

abbrev pub not_ours_of : Said
not_ours_of = record { number = 0; told = no_record; follow = 0; kept = 0 }

-- what is said to an entry, under its key
abbrev pub named : ℕ → Said → Told
named key w = record { key = key; number = w.number; «record» = w.told; follow = w.follow; kept = w.kept }

-- the set of group keys of a subscribed key
abbrev pub set_under : List ℕ → List ℕ → ℕ → ℕ
set_under keys groups key = set_at groups (first_of keys key)

-- an answer, the receiver that it leaves aside
pub record Reply : Type 0 where
  pub refusal : Refusal
  pub expired : ℕ
  pub dropped : ℕ
  pub count : ℕ
  pub entries : List Told
  pub paged : Paged

-- an answer has nine places for entries
abbrev pub laid_out : List Told → List Told
laid_out l = padded no_told 9 l

-- a refusal alone
abbrev pub refused_by : Refusal → Reply
refused_by w = record { refusal = w; expired = 0; dropped = 0; count = 0; entries = laid_out []; paged = no_paged }

-- after a setup and events
module _ (s : Setup) (es : List Event) where
  -- the receiver of one call on one channel
  abbrev pub call_after : ℕ → Channel → One
  call_after key c = one_after key c (timer_of c s) fresh (seen key c s.tick es)

  abbrev pub last_tick : ℕ
  last_tick = clock_after s.tick es

  -- the next event
  module _ (e : Event) where
    -- the call when the time up to the event has passed
    abbrev pub call_at : ℕ → Channel → One
    call_at key c = passed (timer_of c s) (call_after key c) (step_between last_tick e.tick)

    -- the half that the event leaves it, before its entries
    abbrev pub left_by : ℕ → Channel → Option Half
    left_by key c = spared key c (call_at key c) (sight_of key c e.happening)

    -- what is known of the cell then
    abbrev pub known_on : ℕ → Channel → Known
    known_on key c = known_then (call_after key c) (sight_of key c e.happening)

    -- what it says to an entry, having taken its own of the earlier ones; with its set of group keys
    abbrev pub said_under : ℕ → ℕ → List Record → Record → Said
    said_under key group earlier x =
        said_by group (known_on key (channel_in e)) (meet_one (channel_in e) (held_after_of (channel_in e) (left_by key (channel_in e)) (mine key earlier)) x)

    -- 9 goes before the rest
    abbrev pub ground_by : Refusal
    ground_by = pick (ltb (step_between last_tick e.tick) (2 ^ 31)) (grounds_of e.happening) (ground 9)

    -- the keys come last: no call knows them, and of the sets each knows its own
    module _ (keys groups : List ℕ) where
      abbrev pub toldTo : List Record → Record → Told
      toldTo earlier x =
          named (key_of x.call)
          (pick (subscribed keys (key_of x.call)) (said_under (key_of x.call) (set_under keys groups (key_of x.call)) earlier x) not_ours_of)

      -- expired are the halves that time took, dropped those that the event took of the rest; the k-th entry comes behind the first k
      abbrev pub acceptedBy : Reply
      acceptedBy =
          record {
            refusal = no_refusal;
            expired = total_over (λ key c. lost (call_after key c).held (call_at key c).held) keys;
            dropped = total_over (λ key c. lost (call_at key c).held (left_by key c)) keys;
            count = length (event_entries e);
            entries = laid_out (map_at (λ k x. toldTo (take k (event_entries e)) x) 0 (event_entries e));
            paged = paged_in e.happening;
          }

      unfoldable pub reply_by : Reply
      reply_by = pick (accepts last_tick e) acceptedBy (refused_by ground_by)

-- What happened at the uplink, and what is answered for it: no uplink is kept here, and every age is a sum of steps (document 02, §9; 44.018, 3.3.1.2.1.1). Assumes nothing.
use Rattle.std.specs.Prelude.{List, [], ◌∷◌, Bool, false, not, ℕ, ◌+◌, ltb}
use Rattle.bits.specs.Field.{both, pick}
use Rattle.clock.specs.Clock.{wrap_sub, late}
use Rattle.uplink.specs.declared.Signal.{Signal}
use Rattle.uplink.specs.declared.End.{End}
use Rattle.uplink.specs.declared.Told.{Told}
use Rattle.uplink.specs.declared.Setup.{Setup}
use Rattle.uplink.specs.Uplink.{by_signal, Event}

-- ## Moments: accepted events

-- what it was, and the milliseconds since the accepted event before it
pub record Moment : Type 0 where
  pub step : ℕ
  pub signal : Signal

abbrev pub moment_of : ℕ → Event → Moment
moment_of last e = record { step = wrap_sub e.tick last; signal = e.signal }

-- those of some events after a tick, in order; nothing happens at a refused one
unfoldable pub moments : ℕ → List Event → List Moment
moments last [] = []
moments last (e ∷ es) = pick (late e.tick last) (moments last es) (moment_of last e ∷ moments e.tick es)

-- the tick of the last of them
unfoldable pub clock_after : ℕ → List Event → ℕ
clock_after last [] = last
clock_after last (e ∷ es) = pick (late e.tick last) (clock_after last es) (clock_after e.tick es)

-- a past, its latest moment first, followed by moments in order
abbrev pub followed : List Moment → List Moment → List Moment
followed past [] = past
followed past (m ∷ ms) = followed (m ∷ past) ms

-- ## What holds so many milliseconds after the latest moment of a past

-- "The uplink is free if the last "free" message came less than 480 ms ago and no "busy" came since"
unfoldable pub is_free : ℕ → List Moment → Bool
is_free age [] = false
is_free age (m ∷ past) = by_signal m.signal (ltb age 480) false (is_free (age + m.step) past) (is_free (age + m.step) past)

-- a request waits, with so many ms for T3128: it came where none waited and the uplink was not free, less than that ago, and no "free" came since
unfoldable pub waits : ℕ → ℕ → List Moment → Bool
waits t age [] = false
waits t age (m ∷ past) =
    by_signal m.signal false (waits t (age + m.step) past)
    (pick (waits t m.step past) (waits t (age + m.step) past) (both (not (is_free m.step past)) (ltb age t)))
    (waits t (age + m.step) past)

-- ## The answer to the next moment

-- what became of the request that waited at the latest moment: "Expiry comes before the event's own effect"
abbrev pub end_by : ℕ → List Moment → Moment → End
end_by t past m =
    pick (waits t 0 past) (pick (waits t m.step past) (by_signal m.signal End.Granted End.Nothing End.Nothing End.Nothing) End.Rejected) End.Nothing

-- what a new request is told
abbrev pub told_by : ℕ → List Moment → Moment → Told
told_by t past m =
    by_signal m.signal Told.Nothing Told.Nothing
    (pick (waits t m.step past) Told.AlreadyWaiting (pick (is_free m.step past) Told.Granted Told.Waiting)) Told.Nothing

-- an answer, the uplink that it leaves aside
pub record Reply : Type 0 where
  pub refusal : ℕ
  pub end : End
  pub told : Told

module _ (s : Setup) (es : List Event) where
  -- what happened after a setup and events, the latest first; and the last tick
  abbrev pub past_of : List Moment
  past_of = followed [] (moments s.tick es)

  abbrev pub last_tick : ℕ
  last_tick = clock_after s.tick es

  -- the answer to the next event
  unfoldable pub reply_by : Event → Reply
  reply_by e =
      pick (late e.tick last_tick) (record { refusal = 9; end = End.Nothing; told = Told.Nothing })
      (record { refusal = 0; end = end_by s.t3128 past_of (moment_of last_tick e); told = told_by s.t3128 past_of (moment_of last_tick e) })

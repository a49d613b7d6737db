-- What is promised of the uplink (document 02, §9). The paper's figures are written out here, not by the uplink's names for them. Assumes nothing.
use Rattle.std.specs.Prelude.{◌≡◌, ◌⊎◌, List, [], ◌∷◌, ◌++◌, ℕ, ◌+◌, ◌<◌, ◌≤◌}
use Rattle.clock.specs.Clock.{wrap_sub}
use Rattle.uplink.specs.declared.Uplink.{Uplink}
use Rattle.uplink.specs.declared.Signal.{Signal}
use Rattle.uplink.specs.declared.End.{End}
use Rattle.uplink.specs.declared.Told.{Told}
use Rattle.uplink.specs.declared.Answer.{Answer}
use Rattle.uplink.specs.declared.Setup.{Setup}
use Rattle.uplink.specs.Uplink.{Event, step_of, started_of}
use Rattle.uplink.specs.History.{Moment, moments, past_of, last_tick, Reply, reply_by}

-- ## What is answered, after a setup and events

unfoldable pub after : Uplink → List Event → Uplink
after u [] = u
after u (e ∷ es) = after (step_of u e).uplink es

abbrev pub reply_of : Answer → Reply
reply_of a = record { refusal = a.refusal; end = a.«end»; told = a.told }

-- to the next event, and to each of the next events
abbrev pub reply_to : Setup → List Event → Event → Reply
reply_to s es e = reply_of (step_of (after (started_of s).uplink es) e)

unfoldable pub replies_from : Uplink → List Event → List Reply
replies_from u [] = []
replies_from u (e ∷ es) = reply_of (step_of u e) ∷ replies_from (step_of u e).uplink es

abbrev pub replies_to : Setup → List Event → List Event → List Reply
replies_to s es fs = replies_from (after (started_of s).uplink es) fs

-- ## 1. The whole answer is the history's

-- A reply leaves nothing of an answer out but the uplink.
abbrev pub AReplyAndAnUplinkAreAnAnswer : Type 0
AReplyAndAnUplinkAreAnAnswer = (a b : Answer) → reply_of a ≡ reply_of b → a.uplink ≡ b.uplink → a ≡ b

-- For every accepted setup and after any events, refused ones among them, the answer to the next event is what the history says: the two times that stand still at 0 are
-- the sums of accepted steps, as far as anybody can see.
abbrev pub TheAnswerFollowsFromTheHistory : Type 0
TheAnswerFollowsFromTheHistory = (s : Setup) → (started_of s).refusal ≡ 0 → (es : List Event) (e : Event) → reply_to s es e ≡ reply_by s es e

-- ## 2. Exactly once

-- a request after a setup and events, accepted and not told "already waiting"
pub record Asks (s : Setup) (es : List Event) (e : Event) : Type 0 where
  pub right : (started_of s).refusal ≡ 0
  pub request : e.signal ≡ Signal.Request
  pub accepted : (reply_to s es e).refusal ≡ 0
  pub own : (reply_to s es e).told ≡ Told.AlreadyWaiting → ⊥

-- what an event's end gives to the request that waited, and what a request is given at its own event
abbrev pub given : End → List End
given End.Nothing = []
given End.Granted = End.Granted ∷ []
given End.Rejected = End.Rejected ∷ []

abbrev pub at_once : Told → List End
at_once Told.Nothing = []
at_once Told.Granted = End.Granted ∷ []
at_once Told.Waiting = []
at_once Told.AlreadyWaiting = []

-- what is later is another's, once a request is told "waiting"
abbrev pub until_waiting : {A : Type 0} → Told → List A → List A
until_waiting Told.Nothing l = l
until_waiting Told.Granted l = l
until_waiting Told.Waiting l = []
until_waiting Told.AlreadyWaiting l = l

-- the ends up to and with the event of the next request that is told "waiting": an event's end comes before its request
unfoldable pub ends_in : List Reply → List End
ends_in [] = []
ends_in (r ∷ rs) = given r.end ++ until_waiting r.told (ends_in rs)

-- everything that a request is given, at its own event and at the events that follow
abbrev pub outcomes : Setup → List Event → Event → List Event → List End
outcomes s es e fs = at_once (reply_to s es e).told ++ ends_in (replies_to s (es ++ (e ∷ [])) fs)

-- the sum of steps
unfoldable pub elapsed : List Moment → ℕ
elapsed [] = 0
elapsed (m ∷ ms) = m.step + elapsed ms

-- For every accepted setup, any events, a request and any further events, refused ones among all of them: the request is granted or rejected, once, or it has been given nothing
-- yet, and waits within its time.
abbrev pub EachRequestEndsExactlyOnce : Type 0
EachRequestEndsExactlyOnce =
    (s : Setup) (es : List Event) (e : Event) (fs : List Event)
    → Asks s es e
    → (outcomes s es e fs ≡ End.Granted ∷ [])
    ⊎ ((outcomes s es e fs ≡ End.Rejected ∷ []) ⊎ ((outcomes s es e fs ≡ []) × (elapsed (moments e.tick fs) < s.t3128)))

-- and as long as no request was told "waiting", none ends
abbrev pub NothingEndsThatDoesNotWait : Type 0
NothingEndsThatDoesNotWait = (s : Setup) → (started_of s).refusal ≡ 0 → (fs : List Event) → ends_in (replies_to s [] fs) ≡ []

-- ## 3. Exactly when

-- none of these signals among the moments
abbrev pub Without : Signal → List Moment → Type 0
Without x [] = Unit {0}
Without x (m ∷ ms) = (m.signal ≡ x → ⊥) × Without x ms

-- "The uplink is free if the last "free" message came less than 480 ms ago and no "busy" came since": of a past, its latest moment first, and the step to now
pub record FreeNow (past : List Moment) (step : ℕ) : Type 0 where
  pub since : List Moment
  pub freed : Moment
  pub before : List Moment
  pub split : past ≡ since ++ (freed ∷ before)
  pub free : freed.signal ≡ Signal.Free
  pub last : Without Signal.Free since
  pub quiet : Without Signal.Busy since
  pub young : elapsed since + step < 480

-- "A "free" before it runs out grants": the first "free" of the moments in order came before so many ms were over
pub record FreedInTime (t : ℕ) (ms : List Moment) : Type 0 where
  pub before : List Moment
  pub freed : Moment
  pub later : List Moment
  pub split : ms ≡ before ++ (freed ∷ later)
  pub first : Without Signal.Free before
  pub free : freed.signal ≡ Signal.Free
  pub soon : elapsed before + freed.step < t

-- "at its end the request is rejected": so many ms were over at a moment, and no "free" had come before it
pub record RanOut (t : ℕ) (ms : List Moment) : Type 0 where
  pub before : List Moment
  pub over : Moment
  pub later : List Moment
  pub split : ms ≡ before ++ (over ∷ later)
  pub first : Without Signal.Free before
  pub late : t ≤ elapsed before + over.step

-- the uplink was free at the request
abbrev pub FreeThen : Setup → List Event → Event → Type 0
FreeThen s es e = FreeNow (past_of s es) (wrap_sub e.tick (last_tick s es))

-- the first "free" after the request came in time; time ran out
abbrev pub FreedSoon : Setup → Event → List Event → Type 0
FreedSoon s e fs = FreedInTime s.t3128 (moments e.tick fs)

abbrev pub Over : Setup → Event → List Event → Type 0
Over s e fs = RanOut s.t3128 (moments e.tick fs)

abbrev pub ARequestIsGrantedExactlyWhen : Type 0
ARequestIsGrantedExactlyWhen =
    (s : Setup) (es : List Event) (e : Event) (fs : List Event)
    → Asks s es e
    → (outcomes s es e fs ≡ End.Granted ∷ [] → FreeThen s es e ⊎ FreedSoon s e fs)
    × (FreeThen s es e ⊎ FreedSoon s e fs → outcomes s es e fs ≡ End.Granted ∷ [])

abbrev pub ARequestIsRejectedExactlyWhen : Type 0
ARequestIsRejectedExactlyWhen =
    (s : Setup) (es : List Event) (e : Event) (fs : List Event)
    → Asks s es e
    → (outcomes s es e fs ≡ End.Rejected ∷ [] → (FreeThen s es e → ⊥) × Over s e fs)
    × ((FreeThen s es e → ⊥) × Over s e fs → outcomes s es e fs ≡ End.Rejected ∷ [])

-- ## 4. Refusals

abbrev pub ARefusedEventChangesNothing : Type 0
ARefusedEventChangesNothing = (u : Uplink) (e : Event) → ((step_of u e).refusal ≡ 0 → ⊥) → (step_of u e).uplink ≡ u

-- 9 exactly where the step is 2^31 or more, and then nothing is told; and 10 exactly where T3128 is not 1 to 60,000
abbrev pub AnEventIsRefusedExactlyByTheClock : Type 0
AnEventIsRefusedExactlyByTheClock =
    (u : Uplink) (e : Event)
    → (2147483648 ≤ wrap_sub e.tick u.tick → reply_of (step_of u e) ≡ record { refusal = 9; end = End.Nothing; told = Told.Nothing })
    × (wrap_sub e.tick u.tick < 2147483648 → (step_of u e).refusal ≡ 0)

abbrev pub ASetupIsRefusedExactlyByItsTimer : Type 0
ASetupIsRefusedExactlyByItsTimer =
    (s : Setup)
    → ((1 ≤ s.t3128) × (s.t3128 ≤ 60000) → (started_of s).refusal ≡ 0)
    × ((s.t3128 < 1) ⊎ (60000 < s.t3128) → (started_of s).refusal ≡ 10)

-- The uplink as it is kept: two times that go down and stand still at 0 (document 02, §9). Assumes nothing.
use Rattle.std.specs.Prelude.{Bool, ℕ, ◌-◌, leb, eqb}
use Rattle.bits.specs.Field.{both, pick}
use Rattle.clock.specs.Clock.{wrap_sub, late}
use Rattle.uplink.specs.declared.Uplink.{Uplink}
use Rattle.uplink.specs.declared.Signal.{Signal}
use Rattle.uplink.specs.declared.Signal.TheVariants.{Free, Busy, Request, Tick}
use Rattle.uplink.specs.declared.End.{End}
use Rattle.uplink.specs.declared.Told.{Told}
use Rattle.uplink.specs.declared.Answer.{Answer}
use Rattle.uplink.specs.declared.Setup.{Setup}
use Rattle.uplink.specs.declared.Started.{Started}

-- a row of a table: what is there for a "free", a "busy", a request and a tick alone
abbrev pub by_signal : {A : Type 0} → Signal → A → A → A → A → A
by_signal Free a b c d = a
by_signal Busy a b c d = b
by_signal Request a b c d = c
by_signal Tick a b c d = d

-- "less than 480 ms ago"
abbrev pub free_span : ℕ
free_span = 480

-- ## Time: it passes before the event's own effect

-- a difference of natural numbers stands still at 0
unfoldable pub passed : Uplink → ℕ → Uplink
passed u now =
    record { tick = now; t3128 = u.t3128; free = u.free - wrap_sub now u.tick; wait = u.wait - wrap_sub now u.tick }

-- ## What is answered

-- what a request had left before the time passed, and has then: "A "free" before it runs out grants; at its end the request is rejected"
unfoldable pub end_of : ℕ → ℕ → Signal → End
end_of before after s =
    pick (eqb before 0) End.Nothing (pick (eqb after 0) End.Rejected (by_signal s End.Granted End.Nothing End.Nothing End.Nothing))

-- "A second request while one waits is told "already waiting""; "A request on a free uplink is granted at once. Otherwise T3128 starts"
unfoldable pub asked_for : ℕ → ℕ → Told
asked_for free wait = pick (eqb wait 0) (pick (eqb free 0) Told.Waiting Told.Granted) Told.AlreadyWaiting

unfoldable pub told_of : ℕ → ℕ → Signal → Told
told_of free wait s = by_signal s Told.Nothing Told.Nothing (asked_for free wait) Told.Nothing

-- ## The event's own effect

abbrev pub with_times : Uplink → ℕ → ℕ → Uplink
with_times u free wait = record { tick = u.tick; t3128 = u.t3128; free = free; wait = wait }

-- T3128 starts where the uplink is not free and none waits
unfoldable pub asking : Uplink → Uplink
asking u = pick (both (eqb u.wait 0) (eqb u.free 0)) (with_times u u.free u.t3128) u

-- a "free" counts from now on, and nobody waits then; since a "busy" it does not count
unfoldable pub after_signal : Uplink → Signal → Uplink
after_signal u s = by_signal s (with_times u free_span 0) (with_times u 0 u.wait) (asking u) u

-- ## One event

pub record Event : Type 0 where
  pub tick : ℕ
  pub signal : Signal

-- "Refusals: 9 and 10 as before": a refusal is its number alone
abbrev pub refused : Uplink → Answer
refused u = record { refusal = 9; «end» = End.Nothing; told = Told.Nothing; uplink = u }

abbrev pub accepted : Uplink → Uplink → Signal → Answer
accepted u p s =
    record { refusal = 0; «end» = end_of u.wait p.wait s; told = told_of p.free p.wait s; uplink = after_signal p s }

unfoldable pub step_of : Uplink → Event → Answer
step_of u e = pick (late e.tick u.tick) (refused u) (accepted u (passed u e.tick) e.signal)

-- ## Setup

abbrev pub longest : ℕ
longest = 60000

-- "T3128 .. its length given at this part's own setup, 1 to 60,000 ms"
abbrev pub is_timer : ℕ → Bool
is_timer t = both (leb 1 t) (leb t longest)

abbrev pub new_uplink : ℕ → ℕ → Uplink
new_uplink tick t3128 = record { tick = tick; t3128 = t3128; free = 0; wait = 0 }

unfoldable pub started_of : Setup → Started
started_of s =
    pick (is_timer s.t3128) (record { refusal = 0; uplink = new_uplink s.tick s.t3128 }) (record { refusal = 10; uplink = new_uplink 0 0 })

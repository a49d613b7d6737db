-- The two times that are kept are what the sums of accepted steps leave, seen from every later moment. Assumes nothing.
use mathlib.Core.Path.{◌≡◌, refl, sym, ap, ◌∙◌}
use mathlib.Core.List.{List, [], ◌∷◌}
use mathlib.Core.Bool.{Bool, true, false}
use Prim.Native.Nat.{ℕ, ◌+◌, ◌<◌}
use native.Mathlib.Nat.{zero-add}
use native.Mathlib.Omega.{arith}
use lib.Dec.{ltb}
use borrow.Author.Tests.{lt-ltb, le-ltb, eq-eqb, ne_eqb}
use Rattle.bits.specs.Field.{pick}
use Rattle.clock.specs.Clock.{wrap_sub, late}
use Rattle.uplink.specs.declared.Uplink.{Uplink}
use Rattle.uplink.specs.declared.Signal.{Signal}
use Rattle.uplink.specs.declared.Setup.{Setup}
use Rattle.uplink.specs.declared.Started.{Started}
use Rattle.uplink.specs.declared.End.{End}
use Rattle.uplink.specs.declared.Told.{Told}
use Rattle.uplink.specs.Uplink.{Event, passed, end_of, asked_for, told_of, asking, with_times, after_signal, accepted, refused, step_of, is_timer, new_uplink, started_of}
use Rattle.uplink.specs.History.{Moment, moment_of, moments, clock_after, followed, is_free, waits, end_by, told_by, last_tick, reply_by}
use Rattle.uplink.specs.Promises.{after, reply_of, reply_to}
use Rattle.uplink.proofs.Tests.{by_clock, by_time, by-signal, left-test, over-test}

-- the uplink is what a past leaves, where T3128 is t and the last tick `last`
pub record Left (t last : ℕ) (past : List Moment) (u : Uplink) : Type 0 where
  pub tick : u.tick ≡ last
  pub timer : u.t3128 ≡ t
  pub free : (age : ℕ) → is_free age past ≡ ltb age u.free
  pub wait : (age : ℕ) → waits t age past ≡ ltb age u.wait

pub late-step : (u : Uplink) (e : Event) → late e.tick u.tick ≡ true → step_of u e ≡ refused u
unfolding step_of
late-step u e p = rw p

pub timely-step : (u : Uplink) (e : Event) → late e.tick u.tick ≡ false → step_of u e ≡ accepted u (passed u e.tick) e.signal
unfolding step_of
timely-step u e p = rw p

-- ## A request

module _ (v : Uplink) where
  pub asks : v.wait ≡ 0 → v.free ≡ 0 → asking v ≡ with_times v v.free v.t3128
  unfolding asking
  asks h k = rw (eq-eqb v.wait 0 h, eq-eqb v.free 0 k)

  pub asks-free : 0 < v.free → asking v ≡ v
  unfolding asking
  asks-free k = by_time v.wait (λ h. rw (eq-eqb v.wait 0 h, ne_eqb v.free 0 (λ e. omega arith))) (λ h. rw (ne_eqb v.wait 0 (λ e. omega arith)))

  pub asks-again : 0 < v.wait → asking v ≡ v
  unfolding asking
  asks-again h = rw (ne_eqb v.wait 0 (λ e. omega arith))

  -- what holds of both ways holds of a request
  pub asks-keeps : (P : Uplink → Type 0) → P (with_times v v.free v.t3128) → P v → P (asking v)
  asks-keeps P x y =
      by_time v.wait (λ h. by_time v.free (λ k. rw (asks h k) x) (λ k. rw (asks-free k) y)) (λ h. rw (asks-again h) y)

  -- tick and T3128 stay
  after-keeps : (f : Uplink → ℕ) → ((free wait : ℕ) → f (with_times v free wait) ≡ f v) → (s : Signal) → f (after_signal v s) ≡ f v
  unfolding after_signal
  after-keeps f k s =
      by-signal (λ (s : Signal). f (after_signal v s) ≡ f v) (k _ _) (k _ _) (asks-keeps (λ (x : Uplink). f x ≡ f v) (k _ _) refl) refl s

-- ## One accepted event

module _ (t last : ℕ) (past : List Moment) (u : Uplink) (l : Left t last past u) (now : ℕ) where
  abbrev d : ℕ
  d = wrap_sub now u.tick

  abbrev p : Uplink
  p = passed u now

  free-later : (age : ℕ) → is_free (age + wrap_sub now last) past ≡ ltb age p.free
  unfolding passed
  free-later age = rw (← l.tick) (l.free (age + d) ∙ left-test age d u.free)

  wait-later : (age : ℕ) → waits t (age + wrap_sub now last) past ≡ ltb age p.wait
  unfolding passed
  wait-later age = rw (← l.tick) (l.wait (age + d) ∙ left-test age d u.wait)

  pub free_now : is_free (wrap_sub now last) past ≡ ltb 0 p.free
  free_now = rw zero-add at (free-later 0)

  wait-now : waits t (wrap_sub now last) past ≡ ltb 0 p.wait
  wait-now = rw zero-add at (wait-later 0)

  module _ (s : Signal) where
    abbrev m : Moment
    m = record { step = wrap_sub now last; signal = s }

    end_is : end_of u.wait p.wait s ≡ end_by t past m
    unfolding end_of
    end_is = simp (over-test, l.wait 0, wait-now)

    told_is : told_of p.free p.wait s ≡ told_by t past m
    unfolding told_of asked_for
    told_is = simp (over-test, free_now, wait-now)

  pub timer-same : p.t3128 ≡ t
  unfolding passed
  timer-same = l.timer

  tick-same : p.tick ≡ now
  unfolding passed
  tick-same = refl

  -- a request
  waits-is : (age : ℕ) → waits t age (m Signal.Request ∷ past) ≡ ltb age (asking p).wait
  unfolding waits
  waits-is age =
      by_time p.wait
      (λ h. by_time p.free (λ k. simp (wait-now, free_now, le-ltb 0 p.wait (omega arith), le-ltb 0 p.free (omega arith), asks p h k) (ap (ltb age) (sym timer-same)))
      (λ k. simp (wait-now, free_now, le-ltb 0 p.wait (omega arith), lt-ltb 0 p.free k, asks-free p k) (sym (le-ltb age p.wait (omega arith)))))
      (λ h. simp (wait-now, lt-ltb 0 p.wait h, asks-again p h) (wait-later age))

  free-is : (s : Signal) (age : ℕ) → is_free age (m s ∷ past) ≡ ltb age (after_signal p s).free
  unfolding is_free after_signal
  free-is s age =
      by-signal (λ (s : Signal). is_free age (m s ∷ past) ≡ ltb age (after_signal p s).free) refl (sym (le-ltb age 0 (omega arith)))
      (rw (asks-keeps p (λ (x : Uplink). x.free ≡ p.free) refl refl) (free-later age)) (free-later age) s

  wait-is : (s : Signal) (age : ℕ) → waits t age (m s ∷ past) ≡ ltb age (after_signal p s).wait
  unfolding waits after_signal
  wait-is s age =
      by-signal (λ (s : Signal). waits t age (m s ∷ past) ≡ ltb age (after_signal p s).wait) (sym (le-ltb age 0 (omega arith))) (wait-later age)
      (waits-is age) (wait-later age) s

  left_is : (s : Signal) → Left t now (m s ∷ past) (after_signal p s)
  left_is s =
      record {
        tick = after-keeps p (λ (x : Uplink). x.tick) (λ a b. refl) s ∙ tick-same;
        timer = after-keeps p (λ (x : Uplink). x.t3128) (λ a b. refl) s ∙ timer-same;
        free = free-is s;
        wait = wait-is s;
      }

-- ## Any events

-- an uplink that a past leaves, after events
pub left_after : (t : ℕ) (es : List Event) (last : ℕ) (past : List Moment) (u : Uplink) → Left t last past u
    → Left t (clock_after last es) (followed past (moments last es)) (after u es)
unfolding after moments clock_after
left_after t [] last past u l = l
left_after t (e ∷ es) last past u l =
    by_clock e.tick last (λ q. rw (q, late-step u e (ap (late e.tick) l.tick ∙ q)) (left_after t es last past u l))
    (λ q. rw (q, timely-step u e (ap (late e.tick) l.tick ∙ q))
    (left_after t es e.tick (moment_of last e ∷ past) (after_signal (passed u e.tick) e.signal) (left_is t last past u l e.tick e.signal)))

-- an accepted setup's T3128 is right
accepted-by : (b : Bool) (x y : Started) → y.refusal ≡ 10 → (pick b x y).refusal ≡ 0 → b ≡ true
accepted-by true x y h p = refl
accepted-by false x y h p = absurd (let z : ◌≡◌ {A = ℕ} 10 0 = sym h ∙ p in omega arith)

pub timer-right : (s : Setup) → (started_of s).refusal ≡ 0 → is_timer s.t3128 ≡ true
unfolding started_of
timer-right s p = accepted-by (is_timer s.t3128) _ (record { refusal = 10; uplink = new_uplink 0 0 }) refl p

pub started : (s : Setup) → (started_of s).refusal ≡ 0 → (started_of s).uplink ≡ new_uplink s.tick s.t3128
unfolding started_of
started s p = rw (timer-right s p)

-- it leaves no past
pub left-started : (s : Setup) → (started_of s).refusal ≡ 0 → Left s.t3128 s.tick [] (started_of s).uplink
unfolding is_free waits
left-started s p =
    rw (started s p)
    (record { tick = refl; timer = refl; free = λ age. sym (le-ltb age 0 (omega arith)); wait = λ age. sym (le-ltb age 0 (omega arith)) })

-- ## The reply to the next event

module _ (t last : ℕ) (past : List Moment) (u : Uplink) (l : Left t last past u) (e : Event) where
  pub reply-late : late e.tick last ≡ true → reply_of (step_of u e) ≡ record { refusal = 9; end = End.Nothing; told = Told.Nothing }
  reply-late q = ap reply_of (late-step u e (ap (late e.tick) l.tick ∙ q))

  pub reply-timely : late e.tick last ≡ false
      → reply_of (step_of u e) ≡ record { refusal = 0; end = end_by t past (moment_of last e); told = told_by t past (moment_of last e) }
  reply-timely q =
      ap reply_of (timely-step u e (ap (late e.tick) l.tick ∙ q))
      ∙ (λ i. record { refusal = 0; end = end_is t last past u l e.tick e.signal i; told = told_is t last past u l e.tick e.signal i })

pub answer-is : (s : Setup) → (started_of s).refusal ≡ 0 → (es : List Event) (e : Event) → reply_to s es e ≡ reply_by s es e
unfolding reply_by
answer-is s p es e =
    let l = left_after s.t3128 es s.tick [] (started_of s).uplink (left-started s p) in
    by_clock e.tick (last_tick s es) (λ q. rw q (reply-late _ _ _ _ l e q)) (λ q. rw q (reply-timely _ _ _ _ l e q))

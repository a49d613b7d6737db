-- What a request that waits is told it came to: its fate, by the moments that follow. Assumes nothing.
use mathlib.Core.Path.{◌≡◌, refl, ap, ◌∙◌}
use mathlib.Core.List.{List, [], ◌∷◌, ◌++◌}
use Prim.Native.Nat.{ℕ, ◌-◌, ◌≤◌, ◌<◌}
use native.Mathlib.Omega.{arith}
use lib.Dec.{eqb}
use borrow.Author.Tests.{eq-eqb, ne_eqb}
use Rattle.bits.specs.Field.{pick}
use Rattle.uplink.specs.declared.Uplink.{Uplink}
use Rattle.uplink.specs.declared.Signal.{Signal}
use Rattle.uplink.specs.declared.End.{End}
use Rattle.uplink.specs.declared.Told.{Told}
use Rattle.uplink.specs.Uplink.{by_signal, Event, passed, end_of, asked_for, told_of, with_times, after_signal}
use Rattle.uplink.specs.History.{Moment, moment_of, moments}
use Rattle.uplink.specs.Promises.{replies_from, given, until_waiting, ends_in}
use Rattle.uplink.proofs.Tests.{by_clock, by_time, by-signal}
use Rattle.uplink.proofs.Sums.{late-step, timely-step, asks-free, asks-again}

-- what a request with so many ms left is given by the moments that follow; with none left it does not wait
unfoldable pub fate : ℕ → List Moment → List End
fate w [] = []
fate w (m ∷ ms) =
    pick (eqb w 0) []
    (pick (eqb (w - m.step) 0) (End.Rejected ∷ [])
    (by_signal m.signal (End.Granted ∷ []) (fate (w - m.step) ms) (fate (w - m.step) ms) (fate (w - m.step) ms)))

pub fate-none : (ms : List Moment) → fate 0 ms ≡ []
unfolding fate
fate-none [] = refl
fate-none (m ∷ ms) = refl

-- any signal but a "free"
not_free : {A : Type 0} (s : Signal) (a b : A) → (s ≡ Signal.Free → ⊥) → by_signal s a b b b ≡ b
not_free s a b =
    by-signal (λ (s : Signal). (s ≡ Signal.Free → ⊥) → by_signal s a b b b ≡ b) (λ z. absurd (z refl)) (λ z. refl) (λ z. refl) (λ z. refl) s

module _ (w : ℕ) (h : 0 < w) (m : Moment) (ms : List Moment) where
  pub fate-over : w ≤ m.step → fate w (m ∷ ms) ≡ End.Rejected ∷ []
  unfolding fate
  fate-over k = rw (ne_eqb w 0 (λ e. omega arith), eq-eqb (w - m.step) 0 (omega arith))

  pub fate-free : m.step < w → m.signal ≡ Signal.Free → fate w (m ∷ ms) ≡ End.Granted ∷ []
  unfolding fate
  fate-free k e = rw (ne_eqb w 0 (λ z. omega arith), ne_eqb (w - m.step) 0 (λ z. omega arith), e)

  pub fate-later : m.step < w → (m.signal ≡ Signal.Free → ⊥) → fate w (m ∷ ms) ≡ fate (w - m.step) ms
  unfolding fate
  fate-later k z = rw (ne_eqb w 0 (λ z. omega arith), ne_eqb (w - m.step) 0 (λ z. omega arith)) (not_free m.signal _ _ z)

-- ## What a request is told

module _ (v : Uplink) where
  pub asked_waiting : v.wait ≡ 0 → v.free ≡ 0 → asked_for v.free v.wait ≡ Told.Waiting
  unfolding asked_for
  asked_waiting h k = rw (eq-eqb v.wait 0 h, eq-eqb v.free 0 k)

  pub asked_granted : v.wait ≡ 0 → 0 < v.free → asked_for v.free v.wait ≡ Told.Granted
  unfolding asked_for
  asked_granted h k = rw (eq-eqb v.wait 0 h, ne_eqb v.free 0 (λ e. omega arith))

  pub asked-again : 0 < v.wait → asked_for v.free v.wait ≡ Told.AlreadyWaiting
  unfolding asked_for
  asked-again h = rw (ne_eqb v.wait 0 (λ e. omega arith))

module _ (before after : ℕ) (s : Signal) where
  end_none : before ≡ 0 → end_of before after s ≡ End.Nothing
  unfolding end_of
  end_none h = rw (eq-eqb before 0 h)

  end-over : 0 < before → after ≡ 0 → end_of before after s ≡ End.Rejected
  unfolding end_of
  end-over h k = rw (ne_eqb before 0 (λ e. omega arith), eq-eqb after 0 k)

  end_goes : 0 < before → 0 < after → end_of before after s ≡ by_signal s End.Granted End.Nothing End.Nothing End.Nothing
  unfolding end_of
  end_goes h k = rw (ne_eqb before 0 (λ e. omega arith), ne_eqb after 0 (λ e. omega arith))

-- ## What is told is the fate

abbrev ToldSo : List Event → Type 0
ToldSo fs = (x : Uplink) → ends_in (replies_from x fs) ≡ fate x.wait (moments x.tick fs)

module _ (fs : List Event) (told : ToldSo fs) where
  none_left : (x : Uplink) → x.wait ≡ 0 → ends_in (replies_from x fs) ≡ []
  none_left x h = told x ∙ rw h (fate-none (moments x.tick fs))

  -- where none waits, a new request at the most begins
  abbrev rest : Uplink → Signal → List End
  rest v s = until_waiting (told_of v.free v.wait s) (ends_in (replies_from (after_signal v s) fs))

  rest-none : (v : Uplink) → v.wait ≡ 0 → (s : Signal) → rest v s ≡ []
  unfolding told_of after_signal
  rest-none v h s =
      by-signal (λ (s : Signal). rest v s ≡ []) (none_left _ refl) (none_left _ h)
      (by_time v.free (λ k. rw (asked_waiting v h k)) (λ k. rw (asked_granted v h k, asks-free v k) (none_left v h))) (none_left v h) s

  -- where one waits on, or is granted
  abbrev onward : Uplink → ℕ → List End
  onward v now = fate v.wait (moments now fs)

  goes_on : (v : Uplink) (now : ℕ) → v.tick ≡ now → ends_in (replies_from v fs) ≡ onward v now
  goes_on v now n = told v ∙ ap (onward v) n

  rest-waits : (v : Uplink) (now : ℕ) → v.tick ≡ now → 0 < v.wait → (w : ℕ) → 0 < w → (s : Signal)
      → given (end_of w v.wait s) ++ rest v s ≡ by_signal s (End.Granted ∷ []) (onward v now) (onward v now) (onward v now)
  unfolding told_of after_signal
  rest-waits v now n h w k s =
      rw (end_goes w v.wait s k h)
      (by-signal
      (λ (s : Signal).
      given (by_signal s End.Granted End.Nothing End.Nothing End.Nothing) ++ rest v s
      ≡ by_signal s (End.Granted ∷ []) (onward v now) (onward v now) (onward v now))
      (ap (λ (l : List End). End.Granted ∷ l) (none_left _ refl)) (goes_on (with_times v 0 v.wait) now n) (rw (asked-again v h, asks-again v h) (goes_on v now n))
      (goes_on v now n) s)

  -- one accepted event
  abbrev step-ends : Uplink → Uplink → Signal → List End
  step-ends u v s = given (end_of u.wait v.wait s) ++ rest v s

  timely : (u : Uplink) (e : Event) → step-ends u (passed u e.tick) e.signal ≡ fate u.wait (moment_of u.tick e ∷ moments e.tick fs)
  unfolding fate passed
  timely u e =
      let p = passed u e.tick in
      by_time u.wait
      (λ h. ap (λ (x : End). given x ++ rest p e.signal) (end_none u.wait p.wait e.signal h) ∙ rest-none p (omega arith) e.signal ∙ rw (eq-eqb u.wait 0 h))
      (λ h. by_time p.wait
      (λ k. ap (λ (x : End). given x ++ rest p e.signal) (end-over u.wait p.wait e.signal h k)
      ∙ ap (λ (l : List End). End.Rejected ∷ l) (rest-none p k e.signal) ∙ rw (ne_eqb u.wait 0 (λ z. omega arith), eq-eqb p.wait 0 k))
      (λ k. rest-waits p e.tick refl k u.wait h e.signal ∙ rw (ne_eqb u.wait 0 (λ z. omega arith), ne_eqb p.wait 0 (λ z. omega arith))))

pub ends_are : (fs : List Event) → ToldSo fs
unfolding ends_in replies_from moments fate
ends_are [] u = refl
ends_are (e ∷ fs) u =
    by_clock e.tick u.tick (λ q. rw (q, late-step u e q) (ends_are fs u)) (λ q. rw (q, timely-step u e q) (timely fs (ends_are fs) u e))

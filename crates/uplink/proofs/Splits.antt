-- A fate, and a free uplink, by the moment that they come from: the moments before it, that moment, and those after it. Assumes nothing.
use mathlib.Core.Path.{◌≡◌, refl, sym, ap, ◌∙◌}
use mathlib.Core.Bool.{true}
use mathlib.Core.Logic.{◌⊎◌, inl, inr, ⊎_elim}
use mathlib.Core.List.{List, [], ◌∷◌, ◌++◌}
use Prim.Native.Nat.{ℕ, ◌+◌, ◌-◌, ◌≤◌, ◌<◌}
use native.Mathlib.Omega.{arith}
use borrow.Author.Tests.{ltb-true, lt-ltb}
use Rattle.uplink.specs.declared.Signal.{Signal}
use Rattle.uplink.specs.declared.Signal.TheVariants.{Free, Busy, Request, Tick}
use Rattle.uplink.specs.declared.End.{End}
use Rattle.uplink.specs.Uplink.{by_signal}
use Rattle.uplink.specs.History.{Moment, is_free}
use Rattle.uplink.specs.Promises.{elapsed, Without, FreeNow, FreedInTime, RanOut}
use Rattle.uplink.proofs.Tests.{by_time, by-signal}
use Rattle.uplink.proofs.Fates.{fate, fate-over, fate-free, fate-later}

-- ## A "free", or not

-- two signals are not the same
abbrev place : Signal → ℕ
place s = by_signal s 0 1 2 3

differ : (a b : Signal) → (place a ≡ place b → ⊥) → a ≡ b → ⊥
differ a b z e = z (ap place e)

-- a "free", a "busy", or neither
abbrev Kinds : Type 0 → Signal → Type 0
Kinds P s = (s ≡ Free → P) → (s ≡ Busy → (s ≡ Free → ⊥) → P) → ((s ≡ Free → ⊥) → (s ≡ Busy → ⊥) → P) → P

by_kind : {P : Type 0} (s : Signal) → Kinds P s
by_kind {P} s =
    by-signal (Kinds P) (λ f g k. f refl) (λ f g k. g refl (differ Busy Free (λ n. omega arith)))
    (λ f g k. k (differ Request Free (λ n. omega arith)) (differ Request Busy (λ n. omega arith)))
    (λ f g k. k (differ Tick Free (λ n. omega arith)) (differ Tick Busy (λ n. omega arith))) s

free-or_not : (s : Signal) → (s ≡ Free) ⊎ (s ≡ Free → ⊥)
free-or_not s = by_kind s (λ e. inl e) (λ e z. inr z) (λ y z. inr y)

-- ## One step of a fate

-- what becomes of a request that waits, at a moment: it ran out, was granted, or waits on with less time
module _ {P : Type 0} (w : ℕ) (h : 0 < w) (m : Moment) (ms : List Moment) where
  by-fate : (w ≤ m.step → fate w (m ∷ ms) ≡ End.Rejected ∷ [] → P)
      → (m.step < w → m.signal ≡ Free → fate w (m ∷ ms) ≡ End.Granted ∷ [] → P)
      → (m.step < w → (m.signal ≡ Free → ⊥) → 0 < w - m.step → fate w (m ∷ ms) ≡ fate (w - m.step) ms → P)
      → P
  by-fate f g k =
      by_time (w - m.step) (λ o. f (omega arith) (fate-over w h m ms (omega arith)))
      (λ o. ⊎_elim (λ e. g (omega arith) e (fate-free w h m ms (omega arith) e)) (λ z. k (omega arith) z o (fate-later w h m ms (omega arith) z)) (free-or_not m.signal))

-- ## Once, or not yet

abbrev Once : ℕ → List Moment → Type 0
Once w ms = (fate w ms ≡ End.Granted ∷ []) ⊎ ((fate w ms ≡ End.Rejected ∷ []) ⊎ ((fate w ms ≡ []) × (elapsed ms < w)))

pub fate_once : (ms : List Moment) (w : ℕ) → 0 < w → Once w ms
unfolding elapsed fate
fate_once [] w h = inr (inr (refl, h))
fate_once (m ∷ ms) w h =
    by-fate w h m ms (λ k e. inr (inl e)) (λ k f e. inl e)
    (λ k z o e. ⊎_elim (λ x. inl (e ∙ x)) (λ y. ⊎_elim (λ x. inr (inl (e ∙ x))) (λ x. inr (inr (e ∙ x.0, omega arith))) y) (fate_once ms (w - m.step) o))

-- ## Granted

pub granted_when : (ms : List Moment) (w : ℕ) → 0 < w → fate w ms ≡ End.Granted ∷ [] → FreedInTime w ms
unfolding elapsed fate
granted_when [] w h p = absurd (let z : ◌≡◌ {A = ℕ} 0 1 = cc in omega arith)
granted_when (m ∷ ms) w h p =
    by-fate w h m ms (λ k e. absurd (let z : ◌≡◌ {A = ℕ} 0 1 = cc in omega arith))
    (λ k f e. record { before = []; freed = m; later = ms; split = refl; first = tt; free = f; soon = omega arith })
    (λ k z o e.
    let f = granted_when ms (w - m.step) o (sym e ∙ p) in
    record {
      before = m ∷ f.before;
      freed = f.freed;
      later = f.later;
      split = ap (λ (l : List Moment). m ∷ l) f.split;
      first = (z, f.first);
      free = f.free;
      soon = omega arith;
    })

granted_then : (before : List Moment) (freed : Moment) (later : List Moment) (w : ℕ) → Without Free before → freed.signal ≡ Free
    → elapsed before + freed.step < w → fate w (before ++ (freed ∷ later)) ≡ End.Granted ∷ []
unfolding elapsed
granted_then [] freed later w q f k = fate-free w (omega arith) freed later (omega arith) f
granted_then (m ∷ before) freed later w q f k =
    fate-later w (omega arith) m (before ++ (freed ∷ later)) (omega arith) q.0 ∙ granted_then before freed later (w - m.step) q.1 f (omega arith)

pub freed_grants : (ms : List Moment) (w : ℕ) → FreedInTime w ms → fate w ms ≡ End.Granted ∷ []
freed_grants ms w f = rw f.split (granted_then f.before f.freed f.later w f.first f.free f.soon)

-- ## Rejected

pub rejected_when : (ms : List Moment) (w : ℕ) → 0 < w → fate w ms ≡ End.Rejected ∷ [] → RanOut w ms
unfolding elapsed fate
rejected_when [] w h p = absurd (let z : ◌≡◌ {A = ℕ} 0 1 = cc in omega arith)
rejected_when (m ∷ ms) w h p =
    by-fate w h m ms (λ k e. record { before = []; over = m; later = ms; split = refl; first = tt; late = omega arith })
    (λ k f e. absurd (let z : ◌≡◌ {A = ℕ} 0 1 = cc in omega arith))
    (λ k z o e.
    let f = rejected_when ms (w - m.step) o (sym e ∙ p) in
    record {
      before = m ∷ f.before;
      over = f.over;
      later = f.later;
      split = ap (λ (l : List Moment). m ∷ l) f.split;
      first = (z, f.first);
      late = omega arith;
    })

rejected_then : (before : List Moment) (over : Moment) (later : List Moment) (w : ℕ) → 0 < w → Without Free before
    → w ≤ elapsed before + over.step → fate w (before ++ (over ∷ later)) ≡ End.Rejected ∷ []
unfolding elapsed
rejected_then [] over later w h q k = fate-over w h over later (omega arith)
rejected_then (m ∷ before) over later w h q k =
    by_time (w - m.step) (λ o. fate-over w h m (before ++ (over ∷ later)) (omega arith))
    (λ o. fate-later w h m (before ++ (over ∷ later)) (omega arith) q.0 ∙ rejected_then before over later (w - m.step) o q.1 (omega arith))

pub over_rejects : (ms : List Moment) (w : ℕ) → 0 < w → RanOut w ms → fate w ms ≡ End.Rejected ∷ []
over_rejects ms w h f = rw f.split (rejected_then f.before f.over f.later w h f.first f.late)

-- ## Free

neither : {A : Type 0} (s : Signal) (a b c : A) → (s ≡ Free → ⊥) → (s ≡ Busy → ⊥) → by_signal s a b c c ≡ c
neither s a b c =
    by-signal (λ (s : Signal). (s ≡ Free → ⊥) → (s ≡ Busy → ⊥) → by_signal s a b c c ≡ c) (λ y z. absurd (y refl)) (λ y z. absurd (z refl)) (λ y z. refl)
    (λ y z. refl) s

-- a moment more that is neither a "free" nor a "busy"
free-behind : (m : Moment) (past : List Moment) (step : ℕ) → (m.signal ≡ Free → ⊥) → (m.signal ≡ Busy → ⊥) → FreeNow past (step + m.step)
    → FreeNow (m ∷ past) step
unfolding elapsed
free-behind m past step y z f =
    record {
      since = m ∷ f.since;
      freed = f.freed;
      before = f.before;
      split = ap (λ (l : List Moment). m ∷ l) f.split;
      free = f.free;
      last = (y, f.last);
      quiet = (z, f.quiet);
      young = omega arith;
    }

pub free-when : (past : List Moment) (step : ℕ) → is_free step past ≡ true → FreeNow past step
unfolding is_free elapsed
free-when [] step p = absurd (let z : ◌≡◌ {A = ℕ} 0 1 = cc in omega arith)
free-when (m ∷ past) step p =
    by_kind m.signal
    (λ e. record { since = []; freed = m; before = past; split = refl; free = e; last = tt; quiet = tt; young = omega (arith, ltb-true step 480 (rw e at p)) })
    (λ e y. absurd (let q = rw e at p in let z : ◌≡◌ {A = ℕ} 0 1 = cc in omega arith))
    (λ y z. free-behind m past step y z (free-when past (step + m.step) (sym (neither m.signal _ _ _ y z) ∙ p)))

free_then : (since : List Moment) (freed : Moment) (before : List Moment) (step : ℕ) → freed.signal ≡ Free → Without Free since
    → Without Busy since → elapsed since + step < 480 → is_free step (since ++ (freed ∷ before)) ≡ true
unfolding is_free elapsed
free_then [] freed before step f l q y = rw f (lt-ltb step 480 (omega arith))
free_then (m ∷ since) freed before step f l q y =
    neither m.signal _ _ _ l.0 q.0 ∙ free_then since freed before (step + m.step) f l.1 q.1 (omega arith)

pub freed-is_free : (past : List Moment) (step : ℕ) → FreeNow past step → is_free step past ≡ true
freed-is_free past step f = rw f.split (free_then f.since f.freed f.before step f.free f.last f.quiet f.young)

-- Splits that the proofs go by: a tick that is late or not, a time that is over or not, two numbers that are equal or not, the four signals. Assumes nothing.
use mathlib.Core.Path.{◌≡◌}
use mathlib.Core.Bool.{true, false}
use mathlib.Core.Logic.{⊎_elim}
use Prim.Native.Nat.{ℕ, ◌+◌, ◌-◌, ◌<◌}
use native.Mathlib.Nat.{eq-zero-or-pos}
use native.Mathlib.Omega.{arith}
use lib.Dec.{eqb, ltb}
use borrow.Author.Tests.{lt-ltb, le-ltb, le-leb, lt-leb, eq-eqb, ne_eqb}
use Rattle.bits.specs.Field.{pick}
use Rattle.clock.specs.Clock.{wrap_sub, late_step, late}
use Rattle.uplink.specs.declared.Signal.{Signal}
use Rattle.uplink.specs.declared.Signal.TheVariants.{Free, Busy, Request, Tick}

pub by_clock : {P : Type 0} (now last : ℕ) → (late now last ≡ true → P) → (late now last ≡ false → P) → P
unfolding late
by_clock now last f g =
    ⊎_elim (λ h. g (lt-leb late_step (wrap_sub now last) (omega arith))) (λ h. f (le-leb late_step (wrap_sub now last) (omega arith)))
    (eq-zero-or-pos (wrap_sub now last + 1 - late_step))

pub by_time : {P : Type 0} (w : ℕ) → (w ≡ 0 → P) → (0 < w → P) → P
by_time w f g = ⊎_elim f g (eq-zero-or-pos w)

pub by_equal : {P : Type 0} (a b : ℕ) → (a ≡ b → P) → ((a ≡ b → ⊥) → P) → P
by_equal a b f g = by_time (a - b + (b - a)) (λ h. f (omega arith)) (λ h. g (λ e. omega arith))

pub by-signal : (P : Signal → Type 0) → P Free → P Busy → P Request → P Tick → (s : Signal) → P s
by-signal P a b c d Free = a
by-signal P a b c d Busy = b
by-signal P a b c d Request = c
by-signal P a b c d Tick = d

-- a test of what is left after a step is one of what was left before
pub left-test : (a d w : ℕ) → ltb (a + d) w ≡ ltb a (w - d)
left-test a d w =
    by_time (w - d - a) (λ h. rw (le-ltb (a + d) w (omega arith), le-ltb a (w - d) (omega arith)))
    (λ h. rw (lt-ltb (a + d) w (omega arith), lt-ltb a (w - d) (omega arith)))

-- a time that is over, or not
pub over-test : {A : Type 0} (w : ℕ) (a b : A) → pick (eqb w 0) a b ≡ pick (ltb 0 w) b a
over-test w a b =
    by_time w (λ h. rw (eq-eqb w 0 h, le-ltb 0 w (omega arith))) (λ h. rw (ne_eqb w 0 (λ e. omega arith), lt-ltb 0 w h))

-- The receiver after a setup and events, as each of its calls sees it. Assumes nothing.
use mathlib.Core.Path.{◌≡◌, refl, sym, ap, ap₂, ◌∙◌}
use mathlib.Core.Bool.{true}
use mathlib.Core.List.{List}
use Prim.Native.Nat.{ℕ, ◌^◌, ◌≤◌, ◌<◌}
use lib.ListN.{length}
use borrow.Author.Tests.{eq-eqb}
use Rattle.csn1.specs.declared.Refusal.{Refusal}
use Rattle.receiver.specs.declared.Receiver.{Receiver}
use Rattle.receiver.specs.declared.Setup.{Setup}
use Rattle.receiver.specs.Channels.{Channel}
use Rattle.receiver.specs.Halving.{first_of}
use Rattle.receiver.specs.Model.{started_of}
use Rattle.receiver.specs.Step.{Event, refusal_of, step_of}
use Rattle.isolation.specs.One.{One, sight_of, step_between, accepts, seen, spared, passed, known_then, step_said, sees, one_after}
use Rattle.isolation.specs.Calls.{timer_of, set_under, last_tick, call_after, known_on, left_by}
use Rattle.isolation.specs.Promises.{answers_on, Ticks, after, held_of}
use Rattle.isolation.proofs.Places.{timer_in}
use Rattle.isolation.proofs.Grounds.{refused_as}
use Rattle.isolation.proofs.Isolation.{view, set_in, Good, cell_then, left_in, accepted, accepts-same, stepped, left-same, then_same, step-said, step-good, viewed, after-keeps, tick-after}
use Rattle.isolation.proofs.Beginning.{started, started-good, started-set, started-view}
use Rattle.isolation.proofs.Cells.{known}

-- an event that is not refused is accepted
pub not_refused : (r : Receiver) (e : Event) → (step_of r e).refusal.number ≡ 0 → accepts r.tick e ≡ true
not_refused r e z = accepts-same r e ∙ eq-eqb (refusal_of r e).number 0 (sym (ap (λ (w : Refusal). w.number) (refused_as r e)) ∙ z)

module _ (s : Setup) (keys sets : List ℕ) (t : s.tick < 4294967296) (z : (started_of s keys sets).refusal.number ≡ 0) (es : List Event) (ts : Ticks es) where
  abbrev pub state : Receiver
  state = after (started s keys sets) es

  pub clock_is : state.tick ≡ last_tick s es
  clock_is = tick-after (started s keys sets) es

  module _ (key : ℕ) (h : first_of keys key < length keys) (c : Channel) where
    pub good : Good key c state
    good = after-keeps (Good key c) (λ r e k a g. step-good key c r g e k a) (started s keys sets) (started-good s keys sets t z key h c) es ts

    pub timer-is : timer_in c state ≡ timer_of c s
    timer-is = after-keeps (λ (r : Receiver). timer_in c r ≡ timer_of c s) (λ r e k a p. p) (started s keys sets) refl es ts

    pub set_is : set_in key state ≡ set_under keys sets key
    set_is = after-keeps (λ (r : Receiver). set_in key r ≡ set_under keys sets key) (λ r e k a p. p) (started s keys sets) (started-set s keys sets t z key h c) es ts

    pub call-is : view key c state ≡ call_after s es key c
    call-is =
        viewed key c (started s keys sets) (started-good s keys sets t z key h c) es ts
        ∙ ap (λ (o : One). one_after key c (timer_of c s) o (seen key c s.tick es)) (started-view s keys sets t z key h c)

    pub long : 1 ≤ timer_of c s
    long = (started-good s keys sets t z key h c).long

    module _ (e : Event) (k : e.tick < 2 ^ 32) (p : accepts state.tick e ≡ true) where
      -- what the event says to the call
      pub said-is : answers_on key c e (step_of state e) ≡ step_said key c (timer_of c s) (set_under keys sets key) (call_after s es key c) (sees key c (last_tick s es) e)
      said-is =
          ap (answers_on key c e) (stepped state e p) ∙ step-said key c state good e k (accepted state e p)
          ∙ ap₂ (λ (n : ℕ) (o : One). step_said key c n (set_in key state) o (sees key c state.tick e)) timer-is call-is
          ∙ ap₂ (λ (m n : ℕ). step_said key c (timer_of c s) m (call_after s es key c) (sees key c n e)) set_is clock_is

      -- what is known of the cell then
      pub known_is : known c (cell_then state e) ≡ known_on s es e key c
      known_is = then_same key c state good e k (accepted state e p) ∙ ap (λ (o : One). known_then o (sight_of key c e.happening)) call-is

      -- and what it leaves of its half before its entries
      pub left_is : held_of e.tick (left_in key c state e) ≡ left_by s es e key c
      left_is =
          left-same key c state good e k (accepted state e p)
          ∙ ap₂ (λ (n : ℕ) (o : One). spared key c (passed n o (step_between state.tick e.tick)) (sight_of key c e.happening)) timer-is call-is
          ∙ ap (λ (n : ℕ). spared key c (passed (timer_of c s) (call_after s es key c) (step_between n e.tick)) (sight_of key c e.happening)) clock_is

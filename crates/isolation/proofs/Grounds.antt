-- The number of a refused event is on its ground, in the table's order. Assumes nothing.
use mathlib.Core.Path.{◌≡◌, sym, ◌∙◌}
use Prim.Native.Nat.{ℕ, ◌≤◌, ◌<◌}
use lib.Dec.{eqb}
use borrow.Author.Tests.{eqb-true, le-leb, lt-leb}
use Rattle.csn1.specs.Format.{ground}
use Rattle.receiver.specs.declared.Receiver.{Receiver}
use Rattle.receiver.specs.Model.{wrap_sub, late_step, late, last_key}
use Rattle.receiver.specs.Step.{Event, Happening, heardNch, heardFacch, heard_pch, joins, moves, bit_is, passes, grounds_of, refusal_of, step_of}
use Rattle.isolation.specs.Promises.{Ground}
use Rattle.receiver.proofs.Cases.{by-test}
use Rattle.receiver.proofs.Refusals.{refusal-sound}

-- what is refused is what refuses
pub refused_as : (r : Receiver) (e : Event) → (step_of r e).refusal ≡ refusal_of r e
unfolding step_of
refused_as r e =
    by-test (eqb (refusal_of r e).number 0) (λ p. rw p (sym ((refusal-sound r e).clean (eqb-true (refusal_of r e).number 0 p)))) (λ p. rw p)

pub late-first : (r : Receiver) (e : Event) → late_step ≤ wrap_sub e.tick r.tick → (refusal_of r e).number ≡ 9
unfolding refusal_of late ground
late-first r e h = rw (le-leb late_step (wrap_sub e.tick r.tick) h)

pub in_time : (r : Receiver) (e : Event) → wrap_sub e.tick r.tick < late_step → (refusal_of r e).number ≡ (grounds_of e.happening).number
unfolding refusal_of late
in_time r e h = rw (lt-leb late_step (wrap_sub e.tick r.tick) h)

pub on-ground : (h : Happening) (n : ℕ) → n ≡ (grounds_of h).number → Ground h n
unfolding ground
on-ground (heardNch s) n q = q
on-ground (heardFacch s) n q = q
on-ground (heard_pch ns) n q = q
on-ground (joins k) n q = (λ h. q ∙ rw (le-leb k last_key h), λ h. q ∙ rw (lt-leb k last_key h))
on-ground (moves m) n q = q
on-ground (bit_is b) n q = (λ h. q ∙ rw (le-leb b 1 h), λ h. q ∙ rw (lt-leb b 1 h))
on-ground passes n q = q

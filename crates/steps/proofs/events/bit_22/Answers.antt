-- `steps::events::bit_22` meets its contract. Assumes nothing.
use mathlib.Core.Path.{refl, ap, ◌∙◌}
use native.Mathlib.Omega.{arith}
use borrow.Author.Tests.{lt-leb, le-leb}
use Rattle.csn1.specs.declared.Refusal.{Refusal}
use Rattle.csn1.specs.Format.{ground}
use Rattle.receiver.specs.Step.{bit_is}
use Rattle.steps.proofs.Entering.{is-late, is-refused, is-accepted}
use Rattle.steps.proofs.events.bit_22.Goals as goal

pub returns-then-is_late : goal.returns-then-is_late
returns-then-is_late c =
    c.refused.ensures
    ∙ is-late _ _ (bit_is c.args.bit) c.is_late.ensures c.if-is_late.true c.ground.ensures

pub returns-then-bit-gt1 : goal.returns-then-bit-gt1
unfolding ground
returns-then-bit-gt1 c =
    let b = c.args.bit in
    let g = c.ground-then-bit-gt1.ensures in
    c.refused-then-bit-gt1.ensures
    ∙ is-refused _ _ (bit_is b) c.is_late.ensures c.if-is_late.false (g ∙ rw (lt-leb b 1 (omega arith))) (λ e. omega (arith, ap (λ (y : Refusal). y.number) g))

pub returns : goal.returns
returns c =
    let a = c.args in
    let low = le-leb a.bit 1 (omega arith) in
    c.plain.ensures
    ∙ is-accepted a.r _ (bit_is a.bit) c.is_late.ensures c.if-is_late.false (rw low) refl c.keep.ensures c.turned-cell.ensures refl

-- `layout::places::left_at` meets its contract. Assumes nothing.
use mathlib.Core.Path.{refl, sym, ◌∙◌}
use native.Mathlib.Omega.{arith}
use Rattle.receiver.specs.Channels.{places}
use Rattle.layout.proofs.States.{in_none, no_such, at_place}
use Rattle.layout.proofs.Sweeps.{left_by}
use Rattle.layout.proofs.places.left_at.Goals as goal

pub returns-then-b-ne-LENGTH : goal.returns-then-b-ne-LENGTH
returns-then-b-ne-LENGTH c = let a = c.args in sym (in_none a.b.now places a.i _ _ c.if-b-ne-LENGTH.true)

pub returns-then-i-ge-PLACES : goal.returns-then-i-ge-PLACES
returns-then-i-ge-PLACES c = let a = c.args in sym (no_such a.b.now places a.i _ _ c.if-b-ne-LENGTH.false c.if-i-ge-PLACES.true)

pub returns-then-timer-age : goal.returns-then-timer-age
returns-then-timer-age c =
    let a = c.args in
    left_by a.b.now a.i _ _ _ _ _ _ _ _ c.u32_at.ensures c.u32_at-2.ensures c.u32_at-3.ensures c.timer_at-timer.ensures c.u32_at-4.ensures
    c.u32_at-5.ensures c.elapsed-age.ensures (omega (arith, c.if-timer-age.true))
    ∙ sym (at_place a.b.now a.i _ _ c.if-b-ne-LENGTH.false c.if-i-ge-PLACES.false)

pub returns : goal.returns
returns c =
    let a = c.args in
    left_by a.b.now a.i _ _ _ _ _ _ _ _ c.u32_at.ensures c.u32_at-2.ensures c.u32_at-3.ensures c.timer_at-timer.ensures c.u32_at-4.ensures
    c.u32_at-5.ensures c.elapsed-age.ensures (refl)
    ∙ sym (at_place a.b.now a.i _ _ c.if-b-ne-LENGTH.false c.if-i-ge-PLACES.false)

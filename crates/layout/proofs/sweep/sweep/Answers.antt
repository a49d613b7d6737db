-- `layout::sweep::sweep` meets its contract. Assumes nothing.
use mathlib.Core.Path.{refl, sym, ◌∙◌}
use Rattle.receiver.specs.Model.{keep}
use Rattle.layout.proofs.States.{no_state}
use Rattle.layout.proofs.Runs.{swept-idle, swept-total}
use Rattle.layout.proofs.NoneOut.{swept_alike}
use Rattle.layout.proofs.Left.{swept-left}
use Rattle.layout.proofs.sweep.sweep.Goals as goal

pub returns-then-b-ne-LENGTH : goal.returns-then-b-ne-LENGTH
returns-then-b-ne-LENGTH c =
    let a = c.args in
    (sym (no_state a.b.now _ _ c.if-b-ne-LENGTH.true), (sym (no_state a.b.now _ _ c.if-b-ne-LENGTH.true), sym (no_state a.b.now _ _ c.if-b-ne-LENGTH.true)))

pub returns-then-idle : goal.returns-then-idle
returns-then-idle c =
    let a = c.args in
    swept-total a.tick a.rule a.b.now _ _ _ c.if-b-ne-LENGTH.false (swept-idle a.tick a.rule a.b.now (c.idle.ensures c.if-idle.true))

pub returns-then-takes_none : goal.returns-then-takes_none
returns-then-takes_none c =
    let a = c.args in
    let none = sym c.takes_none.ensures ∙ c.if-takes_none.true in
    let ran = swept_alike a.tick keep a.rule refl none a.b.now _ _ _ c.expire.ensures in
    swept-total a.tick a.rule a.b.now _ _ _ c.if-b-ne-LENGTH.false ran

pub returns-then-leaves_all : goal.returns-then-leaves_all
returns-then-leaves_all c =
    let a = c.args in
    let whole = c.if-b-ne-LENGTH.false in
    let left = swept-left a.tick a.rule a.b.now (c.leaves_all.ensures c.if-leaves_all.true) whole _ _ _ c.expire-then-leaves_all.ensures in
    swept-total a.tick a.rule a.b.now _ _ _ whole left

pub returns : goal.returns
returns c =
    let a = c.args in
    swept-total a.tick a.rule a.b.now _ _ _ c.if-b-ne-LENGTH.false c.sweep_all.ensures

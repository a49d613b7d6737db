-- `layout::sweep::pass` meets its contract. Assumes nothing.
use mathlib.Core.Path.{sym}
use Rattle.receiver.specs.Model.{keep}
use Rattle.layout.proofs.States.{no_state}
use Rattle.layout.proofs.Runs.{swept-idle, swept-total}
use Rattle.layout.proofs.sweep.pass.Goals as goal

pub returns-then-b-ne-LENGTH : goal.returns-then-b-ne-LENGTH
returns-then-b-ne-LENGTH c =
    let a = c.args in
    (sym (no_state a.b.now _ _ c.if-b-ne-LENGTH.true), (sym (no_state a.b.now _ _ c.if-b-ne-LENGTH.true), sym (no_state a.b.now _ _ c.if-b-ne-LENGTH.true)))

pub returns-then-idle : goal.returns-then-idle
returns-then-idle c =
    let a = c.args in
    swept-total a.tick keep a.b.now _ _ _ c.if-b-ne-LENGTH.false (swept-idle a.tick keep a.b.now (c.idle.ensures c.if-idle.true))

pub returns : goal.returns
returns c =
    swept-total c.args.tick keep c.args.b.now _ _ _ c.if-b-ne-LENGTH.false c.expire.ensures

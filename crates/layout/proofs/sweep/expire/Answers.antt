-- `layout::sweep::expire` meets its contract. Assumes nothing.
use mathlib.Core.Path.{refl}
use Rattle.receiver.specs.Model.{keep}
use Rattle.layout.proofs.NoneOut.{swept-running}
use Rattle.layout.proofs.sweep.expire.Goals as goal

pub returns-then-all_run : goal.returns-then-all_run
returns-then-all_run c =
    let a = c.args in
    swept-running a.tick keep refl a.b.now (c.all_run.ensures c.if-all_run.true)

pub returns : goal.returns
returns c =
    let a = c.args in
    rw c.keep.ensures at c.sweep_all.ensures

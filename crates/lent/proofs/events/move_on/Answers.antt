-- `lent::events::move_on` meets its contract. Assumes nothing.
use mathlib.Core.Path.{refl, ap, ◌∙◌}
use Rattle.receiver.specs.declared.Cell.{Cell}
use Rattle.receiver.specs.Count.{no_news}
use Rattle.receiver.specs.Step.{moving, plainly, cell_by, moved}
use Rattle.lent.proofs.Feeding.{fed-early, whole-then, cell-then, fed-accepted}
use Rattle.lent.proofs.events.move_on.Goals as goal

pub early-n-requires : goal.early-n-requires
early-n-requires c = tt

pub returns-then-n-ne0 : goal.returns-then-n-ne0
returns-then-n-ne0 c = let a = c.args in fed-early a.b.now (moved a.time a.m) _ c.early-n.ensures c.if-n-ne0.true

pub cell_of-requires : goal.cell_of-requires
cell_of-requires c = tt

pub move_cell-cell-requires : goal.move_cell-cell-requires
move_cell-cell-requires c = tt

pub move_rule-requires : goal.move_rule-requires
move_rule-requires c = tt

pub accept-requires : goal.accept-requires
accept-requires c =
    let a = c.args in
    whole-then a.b.now (moved a.time a.m) _ c.early-n.ensures c.if-n-ne0.false

pub returns : goal.returns
returns c =
    let a = c.args in
    let l = a.b.now in
    let e = moved a.time a.m in
    let q = c.early-n.ensures in
    let z = c.if-n-ne0.false in
    let k = cell-then l e _ q z _ c.cell_of.ensures in
    fed-accepted l e _ q z _ _ _ refl (plainly (moving a.m) no_news) refl c.move_rule.ensures
    (c.move_cell-cell.ensures ∙ ap (λ (x : Cell). cell_by x (moving a.m)) k) c.accept.ensures

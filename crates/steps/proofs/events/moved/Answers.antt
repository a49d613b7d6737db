-- `steps::events::moved` meets its contract. Assumes nothing.
use mathlib.Core.Path.{refl, ◌∙◌}
use Rattle.receiver.specs.Step.{moves}
use Rattle.steps.proofs.Entering.{is-late, is-accepted}
use Rattle.steps.proofs.events.moved.Goals as goal

pub returns-then-is_late : goal.returns-then-is_late
returns-then-is_late c =
    c.refused.ensures
    ∙ is-late _ _ (moves c.args.m) c.is_late.ensures c.if-is_late.true c.ground.ensures

pub returns : goal.returns
returns c =
    c.plain.ensures
    ∙ is-accepted _ _ (moves c.args.m) c.is_late.ensures c.if-is_late.false refl refl c.move_rule.ensures
    c.move_cell-cell.ensures refl

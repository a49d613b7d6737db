-- `views::held::holds` meets its contract. Assumes nothing.
use mathlib.Core.Path.{◌∙◌}
use Rattle.layout.proofs.States.{at_place}
use Rattle.views.proofs.Holding.{held-kind}
use Rattle.views.proofs.held.holds.Goals as goal

pub returns : goal.returns
returns c =
    let a = c.args in
    rw (c.half_at.ensures ∙ at_place a.b.now a.i _ _ c.requires.0 c.requires.1) (held-kind a.b.now a.i)

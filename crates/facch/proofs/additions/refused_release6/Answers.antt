-- `facch::additions::refused_release6` meets its contract. Assumes nothing.
use mathlib.Core.Path.{ap}
use Rattle.facch.specs.declared.Release6.{Release6}
use Rattle.facch.proofs.additions.refused_release6.Goals as goal

pub returns : goal.returns
returns c =
    let r = c.args.refusal in
    ap (λ (t : Release6). record { refusal = r; release = t; at = 0 }) c.no_release6.ensures

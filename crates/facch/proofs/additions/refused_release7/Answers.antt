-- `facch::additions::refused_release7` meets its contract. Assumes nothing.
use mathlib.Core.Path.{ap}
use Rattle.facch.specs.declared.Release7.{Release7}
use Rattle.facch.proofs.additions.refused_release7.Goals as goal

pub returns : goal.returns
returns c =
    let r = c.args.refusal in
    ap (λ (t : Release7). record { refusal = r; release = t; at = 0 }) c.no_release7.ensures

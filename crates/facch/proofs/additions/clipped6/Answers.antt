-- `facch::additions::clipped6` meets its contract. Assumes nothing.
use mathlib.Core.Path.{ap, ◌∙◌}
use Rattle.csn1.specs.declared.Refusal.{Refusal}
use Rattle.csn1.specs.Format.{bad}
use Rattle.facch.specs.Parts.{release6_at_of}
use Rattle.facch.proofs.additions.clipped6.Goals as goal

pub returns : goal.returns
returns c = c.refused_release6.ensures ∙ ap (λ (r : Refusal). release6_at_of (bad r)) c.inside.ensures

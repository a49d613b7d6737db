-- `facch::additions::clipped7` meets its contract. Assumes nothing.
use mathlib.Core.Path.{ap, ◌∙◌}
use Rattle.csn1.specs.declared.Refusal.{Refusal}
use Rattle.csn1.specs.Format.{bad}
use Rattle.facch.specs.Parts.{release7_at_of}
use Rattle.facch.proofs.additions.clipped7.Goals as goal

pub returns : goal.returns
returns c = c.refused_release7.ensures ∙ ap (λ (r : Refusal). release7_at_of (bad r)) c.inside.ensures

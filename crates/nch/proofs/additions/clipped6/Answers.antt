-- `nch::additions::clipped6` meets its contract. Assumes nothing.
use mathlib.Core.Path.{ap, ◌∙◌}
use Rattle.csn1.specs.declared.Refusal.{Refusal}
use Rattle.csn1.specs.Format.{bad}
use Rattle.nch.specs.Inner.{release6_passed}
use Rattle.nch.proofs.additions.clipped6.Goals as goal

pub returns : goal.returns
returns c = c.no_release6.ensures ∙ ap (λ (r : Refusal). release6_passed (bad r)) c.inside.ensures

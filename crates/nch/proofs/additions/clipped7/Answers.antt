-- `nch::additions::clipped7` meets its contract. Assumes nothing.
use mathlib.Core.Path.{ap, ◌∙◌}
use Prim.Native.Nat.{ℕ}
use Rattle.csn1.specs.declared.Refusal.{Refusal}
use Rattle.csn1.specs.Format.{bad}
use Rattle.nch.specs.Inner.{list_passed}
use Rattle.nch.proofs.additions.clipped7.Goals as goal

pub returns : goal.returns
returns c = c.no_list.ensures ∙ ap (λ (r : Refusal). list_passed {A = ℕ} (bad r)) c.inside.ensures

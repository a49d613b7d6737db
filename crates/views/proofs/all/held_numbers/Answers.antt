-- `views::all::held_numbers` meets its contract. Assumes nothing.
use mathlib.Core.Path.{refl, ap, ◌∙◌}
use mathlib.Core.List.{List, [], ◌∷◌}
use Prim.Native.Nat.{ℕ}
use lib.ListN.{length, replicate}
use Rattle.views.proofs.Lines.{two_runs}
use Rattle.views.proofs.all.held_numbers.Goals as goal

pub returns : goal.returns
returns c =
    let a = c.args in
    let r = c.record_numbers-rest.ensures in
    let head = c.run.ensures in
    two_runs (replicate 34 0) _ _ (a.key ∷ a.channel ∷ a.half ∷ a.left ∷ []) _ 4 30 refl (ap length r) refl head c.run-2.ensures
    ∙ ap (λ (x : List ℕ). a.key ∷ a.channel ∷ a.half ∷ a.left ∷ x) r

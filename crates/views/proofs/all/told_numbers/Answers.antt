-- `views::all::told_numbers` meets its contract. Assumes nothing.
use mathlib.Core.Path.{refl, ap, ◌∙◌}
use mathlib.Core.List.{List, [], ◌∷◌, ◌++◌}
use Prim.Native.Nat.{ℕ}
use lib.ListN.{length, replicate}
use Rattle.views.proofs.Lines.{three_runs}
use Rattle.views.proofs.all.told_numbers.Goals as goal

pub returns : goal.returns
returns c =
    let a = c.args in
    let r = c.record_numbers-rest.ensures in
    three_runs (replicate 34 0) _ _ _ (a.key ∷ a.number ∷ []) c.record_numbers-rest.result (a.follow ∷ a.kept ∷ []) 2 30 2 refl (ap length r) refl refl
    c.run.ensures c.run-2.ensures c.run-3.ensures
    ∙ ap (λ (x : List ℕ). a.key ∷ a.number ∷ x ++ (a.follow ∷ a.kept ∷ [])) r

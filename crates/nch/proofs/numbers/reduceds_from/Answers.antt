-- `nch::numbers::reduceds_from` meets its contract. Assumes nothing.
use mathlib.Core.List.{[], ◌∷◌}
use Rattle.nch.proofs.numbers.reduceds_from.Goals as goal

pub returns : goal.returns
returns c =
    λ i.
    c.reduced_no.ensures i
    ∷ c.reduced_no-2.ensures i
    ∷ c.reduced_no-3.ensures i
    ∷ c.reduced_no-4.ensures i
    ∷ c.reduced_no-5.ensures i
    ∷ []

-- `nch::numbers::randoms_from` meets its contract. Assumes nothing.
use mathlib.Core.List.{[], ◌∷◌}
use Rattle.nch.proofs.numbers.randoms_from.Goals as goal

pub returns : goal.returns
returns c =
    λ i.
    c.random_no.ensures i
    ∷ c.random_no-2.ensures i
    ∷ c.random_no-3.ensures i
    ∷ c.random_no-4.ensures i
    ∷ c.random_no-5.ensures i
    ∷ c.random_no-6.ensures i
    ∷ c.random_no-7.ensures i
    ∷ c.random_no-8.ensures i
    ∷ c.random_no-9.ensures i
    ∷ []

-- `facch::taking::is_high` meets its contract. Assumes nothing.
use mathlib.Core.Path.{ap}
use mathlib.Core.Bool.{not}
use Prim.Native.Nat.{ℕ, ◌+◌}
use lib.Dec.{eqb}
use Rattle.facch.proofs.Taken.{coded-told}
use Rattle.facch.proofs.taking.is_high.Goals as goal

pub returns : goal.returns
returns c =
    let a = c.args in
    λ s e.
    coded-told s (a.at + a.from) _ (c.part.ensures s a.at e) _ (ap (λ (x : ℕ). not (eqb c.part.result x)) c.padding_bit.ensures)

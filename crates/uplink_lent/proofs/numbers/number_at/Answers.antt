-- `uplink_lent::numbers::number_at` meets its contract. Assumes nothing.
use mathlib.Core.Path.{sym, subst}
use Prim.Native.Nat.{ℕ}
use native.Mathlib.Omega.{arith}
use Rattle.uplink_lent.specs.Inner.{Stands}
use Rattle.uplink_lent.proofs.Standing.{turned-stands}
use Rattle.uplink_lent.proofs.numbers.number_at.Goals as goal

pub returns : goal.returns
returns c =
    let a = c.args in
    subst (λ (v : ℕ). Stands a.b.now a.i v) (sym c.turned.ensures) (turned-stands c.low_first.result (omega arith) a.b.now a.i c.low_first.ensures)

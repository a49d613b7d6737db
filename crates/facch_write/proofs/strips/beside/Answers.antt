-- `facch_write::strips::beside` meets its contract. Assumes nothing.
use mathlib.Core.Path.{ap}
use Prim.Native.Nat.{ℕ, ◌+◌}
use Rattle.facch_write.proofs.Widths.{shifted, shifted_lt}
use native.Mathlib.Omega.{arith}
use Rattle.facch_write.proofs.strips.beside.Goals as goal

pub overflow_add-result-2 : goal.overflow_add-result-2
overflow_add-result-2 c =
    omega (arith, shifted c.args.a c.args.b c.requires, shifted_lt c.args.a c.args.b c.requires)

pub returns : goal.returns
returns c =
    ap (λ (k : ℕ). record { width = c.args.a.width + c.args.b.width; value = k + c.args.b.value }) (shifted c.args.a c.args.b c.requires)

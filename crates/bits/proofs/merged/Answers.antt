-- `bits::merged` meets its contract. Assumes nothing.
use mathlib.Core.Path.{ap, ◌∙◌}
use Prim.Native.Nat.{ℕ}
use lib.Pow.{pow_pos}
use Rattle.bits.proofs.Octets.{merge, one_shl, merge-parts, high_lt, parts_lt}
use native.Mathlib.Omega.{arith}
use Rattle.bits.proofs.merged.Goals as goal

pub nonzero_rem-low : goal.nonzero_rem-low
nonzero_rem-low c =
    let a = c.args in
    omega (arith, one_shl a.below (omega arith), pow_pos a.below)

pub overflow_add-result : goal.overflow_add-result
overflow_add-result c =
    let a = c.args in
    omega (arith, high_lt c.wide-w.result a.below a.take a.part (omega arith) (omega arith) (omega arith))

pub overflow_add-result-2 : goal.overflow_add-result-2
overflow_add-result-2 c =
    let a = c.args in
    omega (arith, parts_lt c.wide-w.result a.below a.take a.part (omega arith) (omega arith) (omega arith))

pub overflow_cast-result : goal.overflow_cast-result
overflow_cast-result c =
    let a = c.args in
    omega (arith, parts_lt c.wide-w.result a.below a.take a.part (omega arith) (omega arith) (omega arith))

pub returns : goal.returns
unfolding merge
returns c =
    let a = c.args in
    merge-parts c.wide-w.result a.below a.take a.part (omega arith) (omega arith) (omega arith)
    ∙ ap (λ (x : ℕ). merge x a.below a.take a.part) c.wide-w.ensures

-- `bits::window` meets its contract. Assumes nothing.
use Prim.Native.Nat.{◌+◌, ◌-◌, ◌*◌}
use lib.ListN.{length}
use lib.Pow.{pow_mono}
use Rattle.bits.proofs.Laws.{field_lt}
use Rattle.bits.proofs.Octets.{cut, cut-over}
use native.Mathlib.Omega.{arith}
use Rattle.bits.proofs.window.Goals as goal

pub returns-then-n-lt8 : goal.returns-then-n-lt8
returns-then-n-lt8 c =
    let a = c.args in
    let s = a.s.now in
    cut s 0 (length s * 8) a.at a.width (64 - length s * 8 + a.at) c.fewer.result (omega arith) (omega arith) (omega arith) (omega arith) c.fewer.ensures

pub returns-then-place-width-le64 : goal.returns-then-place-width-le64
returns-then-place-width-le64 c =
    let a = c.args in
    let start = c.least-start.result in
    cut a.s.now (start * 8) 64 a.at a.width (a.at - start * 8) c.eight.result (omega arith) (omega arith) (omega arith) (omega arith)
    c.eight.ensures

pub returns : goal.returns
returns c =
    let a = c.args in
    let start = c.least-start.result in
    cut-over a.s.now start a.at a.width (a.at - start * 8) c.eight.result _ c.wide.result (omega arith) (omega arith) (omega arith) (omega arith) (omega arith)
    c.eight.ensures c.wide.ensures (omega (arith, c.type_inv.s (start + 8)))

pub overflow_add-result-2 : goal.overflow_add-result-2
overflow_add-result-2 c =
    let a = c.args in
    omega (arith, returns c, field_lt a.s.now a.at a.width, pow_mono {i = a.width} {j = 64} (omega arith))

-- `words::window::four` meets its contract. Assumes nothing.
use Prim.Native.Nat.{◌+◌, ◌*◌}
use Rattle.bits.proofs.Laws.{field_lt}
use Rattle.bits.proofs.Octets.{join}
use native.Mathlib.Omega.{arith}
use Rattle.words.proofs.window.four.Goals as goal

pub returns : goal.returns
returns c =
    let a = c.args in
    join a.s.now (a.i * 8) ((a.i + 2) * 8) 16 16 c.two-2.result c.two.result (omega arith) c.two-2.ensures c.two.ensures

pub overflow_mul-result : goal.overflow_mul-result
overflow_mul-result c =
    let a = c.args in
    omega (arith, returns c, field_lt a.s.now (a.i * 8) 32)

pub overflow_add-result : goal.overflow_add-result
overflow_add-result c =
    let a = c.args in
    omega (arith, returns c, field_lt a.s.now (a.i * 8) 32)

-- `words::window::eight` meets its contract. Assumes nothing.
use Prim.Native.Nat.{◌+◌, ◌*◌}
use Rattle.bits.proofs.Laws.{field_lt}
use Rattle.bits.proofs.Octets.{join}
use native.Mathlib.Omega.{arith}
use Rattle.words.proofs.window.eight.Goals as goal

pub returns : goal.returns
returns c =
    let a = c.args in
    join a.s.now (a.i * 8) ((a.i + 4) * 8) 32 32 c.four-2.result c.four.result (omega arith) c.four-2.ensures c.four.ensures

pub overflow_mul-result : goal.overflow_mul-result
overflow_mul-result c =
    let a = c.args in
    omega (arith, returns c, field_lt a.s.now (a.i * 8) 64)

pub overflow_add-result : goal.overflow_add-result
overflow_add-result c =
    let a = c.args in
    omega (arith, returns c, field_lt a.s.now (a.i * 8) 64)

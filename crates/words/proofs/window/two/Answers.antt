-- `words::window::two` meets its contract. Assumes nothing.
use mathlib.Core.Path.{◌∙◌}
use Prim.Native.Nat.{◌+◌, ◌*◌}
use Rattle.bits.proofs.Laws.{field_lt}
use Rattle.bits.proofs.Octets.{octet, join}
use native.Mathlib.Omega.{arith}
use Rattle.words.proofs.window.two.Goals as goal

pub returns : goal.returns
returns c =
    let a = c.args in
    let given = c.type_inv.s in
    join a.s.now (a.i * 8) ((a.i + 1) * 8) 8 8 c.wide-2.result c.wide.result (omega arith)
    (c.wide-2.ensures ∙ octet a.s.now a.i (omega (arith, given a.i)))
    (c.wide.ensures ∙ octet a.s.now (a.i + 1) (omega (arith, given (a.i + 1))))

pub overflow_mul-result : goal.overflow_mul-result
overflow_mul-result c =
    let a = c.args in
    omega (arith, returns c, field_lt a.s.now (a.i * 8) 16)

pub overflow_add-result : goal.overflow_add-result
overflow_add-result c =
    let a = c.args in
    omega (arith, returns c, field_lt a.s.now (a.i * 8) 16)

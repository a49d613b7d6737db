-- `pen::shift` meets its contract. Assumes nothing.
use Prim.Native.Nat.{◌*◌, ◌%◌, ◌^◌, ◌<◌}
use native.Mathlib.Nat.{mod-lt}
use lib.Pow.{pow_pos}
use Rattle.bits.proofs.Octets.{one_shl}
use Rattle.pen.proofs.Numbers.{room, room-over, shift_words}
use native.Mathlib.Omega.{arith}
use Rattle.pen.proofs.shift.Goals as goal

pub overflow_add-result : goal.overflow_add-result
overflow_add-result c =
    let a = c.args in omega (arith, room-over a.width c.requires a.w.a a.w.b (omega arith))

pub overflow_add-result-2 : goal.overflow_add-result-2
overflow_add-result-2 c =
    let a = c.args in omega (arith, room-over a.width c.requires a.w.b a.w.c (omega arith))

pub nonzero_rem-result : goal.nonzero_rem-result
nonzero_rem-result c =
    let a = c.args in omega (arith, one_shl a.width (omega arith), pow_pos a.width)

pub overflow_add-result-3 : goal.overflow_add-result-3
overflow_add-result-3 c =
    let a = c.args in
    let l : a.v % (1 * 2 ^ a.width % 2 ^ 64) < 2 ^ a.width = rw (one_shl a.width c.requires) (mod-lt a.v (pow_pos a.width)) in
    omega (arith, room a.width c.requires a.w.c (a.v % (1 * 2 ^ a.width % 2 ^ 64)) l)

pub returns : goal.returns
returns c =
    let a = c.args in
    rw (one_shl a.width c.requires) (shift_words a.width c.requires a.w.a a.w.b a.w.c a.v (omega arith) (omega arith))

-- `nch_write::put_reduced` meets its contract. Assumes nothing.
use mathlib.Core.Path.{ap}
use Prim.Native.Nat.{ℕ, ◌+◌, ◌*◌, ◌^◌}
use borrow.Author.Tests.{ltb-true}
use Rattle.csn1.proofs.Holding.{length-num_bits}
use Rattle.csn1.proofs.Writing.{flag_lt}
use Rattle.nch_write.proofs.Putting.{reduced_put}
use native.Mathlib.Omega.{arith}
use Rattle.nch_write.proofs.put_reduced.Goals as goal

pub overflow_add-c-2 : goal.overflow_add-c-2
overflow_add-c-2 c =
    omega (arith, c.bit_of.ensures, flag_lt c.args.c.vgcs)

pub put-requires : goal.put-requires
put-requires c =
    let l = ltb-true c.args.c.reference (2 ^ 27) c.requires.1 in
    (omega arith, (c.requires.0, omega (arith, l, c.bit_of.ensures, flag_lt c.args.c.vgcs)))

pub returns : goal.returns
returns c =
    let r = c.args.c in
    let f = c.put.ensures in (
      reduced_put r (268435456 + r.reference * 2 + c.bit_of.result) (ltb-true r.reference (2 ^ 27) c.requires.1) (ap (λ (k : ℕ). 268435456 + r.reference * 2 + k) c.bit_of.ensures) f,
      omega (arith, f.next, length-num_bits 29 (268435456 + r.reference * 2 + c.bit_of.result)),
    )

-- `nch_write::put_mark` meets its contract. Assumes nothing.
use mathlib.Core.Path.{ap}
use Prim.Native.Nat.{ℕ, ◌+◌}
use Rattle.csn1.proofs.Holding.{length-num_bits}
use Rattle.csn1.proofs.Writing.{flag_lt}
use Rattle.nch_write.proofs.Putting.{mark_put}
use native.Mathlib.Omega.{arith}
use Rattle.nch_write.proofs.put_mark.Goals as goal

pub overflow_add-bit_of : goal.overflow_add-bit_of
overflow_add-bit_of c =
    omega (arith, c.bit_of.ensures, flag_lt c.args.m)

pub put-requires : goal.put-requires
put-requires c =
    (omega arith, (omega (arith, c.requires), omega (arith, c.bit_of.ensures, flag_lt c.args.m)))

pub returns : goal.returns
returns c =
    let f = c.put.ensures in
    (mark_put c.args.m (2 + c.bit_of.result) (ap (λ (k : ℕ). 2 + k) c.bit_of.ensures) f, omega (arith, f.next, length-num_bits 2 (2 + c.bit_of.result)))

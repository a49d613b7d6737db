-- `nch_write::put_random` meets its contract. Assumes nothing.
use mathlib.Core.Path.{ap}
use Prim.Native.Nat.{ℕ, ◌+◌, ◌^◌}
use Rattle.csn1.proofs.Flags.{flag_limit}
use Rattle.csn1.proofs.Holding.{length-num_bits}
use Rattle.csn1.proofs.Writing.{flag_lt}
use Rattle.nch_write.proofs.Putting.{random_put}
use native.Mathlib.Omega.{arith}
use Rattle.nch_write.proofs.put_random.Goals as goal

pub overflow_add-bit_of : goal.overflow_add-bit_of
overflow_add-bit_of c =
    omega (arith, c.bit_of.ensures, flag_lt c.args.c.segment)

pub put-led-requires : goal.put-led-requires
put-led-requires c =
    (omega arith, (omega (arith, c.requires.0), omega (arith, c.bit_of.ensures, flag_lt c.args.c.segment)))

pub put_flagged-requires : goal.put_flagged-requires
put_flagged-requires c =
    let r = c.args.c in
    let f = c.put-led.ensures in
    (omega arith, (omega (arith, c.requires.0, f.next, length-num_bits 2 (2 + c.bit_of.result)), flag_limit r.hasRandom r.rand (2 ^ 36) c.requires.1 (omega arith)))

pub returns : goal.returns
returns c =
    let r = c.args.c in
    let f = c.put-led.ensures in
    let g = c.put_flagged.ensures in
    (random_put r (2 + c.bit_of.result) (ap (λ (k : ℕ). 2 + k) c.bit_of.ensures) f g.0, omega (arith, f.next, length-num_bits 2 (2 + c.bit_of.result), g.1))

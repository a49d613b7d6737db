-- `layout::records::four_flags` meets its contract. Assumes nothing.
use native.Mathlib.Omega.{arith}
use Rattle.csn1.specs.Told.{as_bit}
use Rattle.csn1.proofs.Writing.{byte_lt, flag_byte}
use Rattle.layout.proofs.Packing.{four-octets, bit-low}
use Rattle.layout.proofs.records.four_flags.Goals as goal

pub overflow_mul-result : goal.overflow_mul-result
overflow_mul-result c = omega (arith, byte_lt c.args.p, byte_lt c.args.q, byte_lt c.args.r, byte_lt c.args.s)

pub overflow_add-result : goal.overflow_add-result
overflow_add-result c = omega (arith, byte_lt c.args.p, byte_lt c.args.q, byte_lt c.args.r, byte_lt c.args.s)

pub overflow_mul-result-2 : goal.overflow_mul-result-2
overflow_mul-result-2 c = omega (arith, byte_lt c.args.p, byte_lt c.args.q, byte_lt c.args.r, byte_lt c.args.s)

pub overflow_add-result-2 : goal.overflow_add-result-2
overflow_add-result-2 c = omega (arith, byte_lt c.args.p, byte_lt c.args.q, byte_lt c.args.r, byte_lt c.args.s)

pub overflow_mul-result-3 : goal.overflow_mul-result-3
overflow_mul-result-3 c = omega (arith, byte_lt c.args.p, byte_lt c.args.q, byte_lt c.args.r, byte_lt c.args.s)

pub overflow_add-result-3 : goal.overflow_add-result-3
overflow_add-result-3 c = omega (arith, byte_lt c.args.p, byte_lt c.args.q, byte_lt c.args.r, byte_lt c.args.s)

pub returns : goal.returns
returns c =
    let a = c.args in
    simp flag_byte
    (four-octets (as_bit a.p) (as_bit a.q) (as_bit a.r) (as_bit a.s) (omega (arith, bit-low a.p)) (omega (arith, bit-low a.q)) (omega (arith, bit-low a.r))
    (omega (arith, bit-low a.s)))

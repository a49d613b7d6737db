-- `uplink_lent::result` meets its contract. Assumes nothing.
use native.Mathlib.Omega.{arith}
use Rattle.uplink_lent.proofs.Octets.{small-end, small-told}
use Rattle.uplink_lent.proofs.result.Goals as goal

pub overflow_mul-result : goal.overflow_mul-result
overflow_mul-result c = rw c.end_number.ensures (omega (arith, small-end c.args.end))

pub overflow_add-result : goal.overflow_add-result
overflow_add-result c = rw c.end_number.ensures (omega (arith, small-end c.args.end))

pub overflow_mul-result-2 : goal.overflow_mul-result-2
overflow_mul-result-2 c = rw c.told_number.ensures (omega (arith, small-told c.args.told))

pub overflow_add-result-2 : goal.overflow_add-result-2
overflow_add-result-2 c = rw (c.end_number.ensures, c.told_number.ensures) (omega (arith, small-end c.args.end, small-told c.args.told))

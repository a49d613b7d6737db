-- `facch_write::strips::coded` meets its contract. Assumes nothing.
use Rattle.csn1.proofs.Lawful.{pad_lt}
use native.Mathlib.Omega.{arith}
use Rattle.facch_write.proofs.strips.coded.Goals as goal

pub overflow_sub-result : goal.overflow_sub-result
overflow_sub-result c = omega (arith, c.padding_bit-padding.ensures, pad_lt c.args.at)

pub returns-then-high : goal.returns-then-high
returns-then-high c = rw (c.if-high.true, c.padding_bit-padding.ensures)

pub returns : goal.returns
returns c = rw (c.if-high.false, c.padding_bit-padding.ensures)

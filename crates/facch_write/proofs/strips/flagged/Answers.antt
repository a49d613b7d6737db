-- `facch_write::strips::flagged` meets its contract. Assumes nothing.
use lib.Pow.{pow_mono}
use Rattle.bits.proofs.Octets.{one_shl}
use native.Mathlib.Omega.{arith}
use Rattle.facch_write.proofs.strips.flagged.Goals as goal

pub overflow_add-result-then-here : goal.overflow_add-result-then-here
overflow_add-result-then-here c =
    omega (arith, one_shl c.args.width (omega arith), pow_mono {i = c.args.width} {j = 36} (omega arith), c.requires.1)

pub returns-then-here : goal.returns-then-here
returns-then-here c = rw (c.if-here.true, one_shl c.args.width (omega arith))

pub returns : goal.returns
returns c = rw c.if-here.false

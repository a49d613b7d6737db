-- `nch_write::put_high` meets its contract. Assumes nothing.
use mathlib.Core.Path.{ap}
use Prim.Native.Nat.{ℕ, ◌-◌}
use Rattle.csn1.specs.Format.{num_bits, pad_bit}
use Rattle.csn1.proofs.Lawful.{pad_lt}
use Rattle.nch_write.proofs.Putting.{inks_as, one_bit}
use native.Mathlib.Omega.{arith}
use Rattle.nch_write.proofs.put_high.Goals as goal

pub overflow_sub-padding_bit : goal.overflow_sub-padding_bit
overflow_sub-padding_bit c =
    omega (arith, c.padding_bit.ensures, pad_lt c.args.p.at)

pub put-requires : goal.put-requires
put-requires c =
    (omega arith, (c.requires, omega (arith, c.padding_bit.ensures, pad_lt c.args.p.at)))

pub returns : goal.returns
returns c =
    let n = c.args.p.at in
    one_bit (1 - pad_bit n) (omega (arith, pad_lt n)) (inks_as (ap (λ (k : ℕ). num_bits 1 (1 - k)) c.padding_bit.ensures) c.put.ensures)

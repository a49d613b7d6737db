-- `nch_write::put_flagged` meets its contract. Assumes nothing.
use mathlib.Core.Path.{ap}
use Prim.Native.Nat.{ℕ, suc, ◌+◌, ◌^◌}
use native.Mathlib.Nat.{pow-suc}
use lib.Pow.{pow-add, pow_mono}
use borrow.Author.Tests.{not-true, not-false}
use Rattle.bits.proofs.Octets.{one_shl}
use Rattle.csn1.specs.Format.{num, num_bits}
use Rattle.csn1.proofs.Holding.{length-num_bits}
use Rattle.nch_write.proofs.Putting.{inks_as, inks_no, inks-flagged}
use native.Mathlib.Omega.{arith}
use Rattle.nch_write.proofs.put_flagged.Goals as goal

pub returns-then-not-here : goal.returns-then-not-here
returns-then-not-here c =
    let a = c.args in
    let f = c.put.ensures in
    (inks_no (num a.width) a.here a.v (not-true a.here c.if-not-here.true-raw) f, omega (arith, f.next, length-num_bits 1 0))

pub overflow_add-width-2 : goal.overflow_add-width-2
overflow_add-width-2 c =
    let a = c.args in
    omega (arith, one_shl a.width (omega arith), pow-suc 2 a.width, pow_mono {i = suc a.width} {j = 64} (omega arith))

pub put-requires-2 : goal.put-requires-2
put-requires-2 c =
    let a = c.args in
    (omega arith, (omega arith, omega (arith, one_shl a.width (omega arith), pow-add 2 1 a.width)))

pub returns : goal.returns
returns c =
    let a = c.args in
    let h = c.requires.1.1 in
    let f = inks_as (ap (λ (k : ℕ). num_bits (1 + a.width) (k + a.v)) (one_shl a.width (omega arith))) c.put-2.ensures in
    (inks-flagged a.here a.width a.v (not-false a.here c.if-not-here.false-raw) h f, omega (arith, f.next, length-num_bits (1 + a.width) (2 ^ a.width + a.v)))

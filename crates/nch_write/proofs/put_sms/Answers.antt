-- `nch_write::put_sms` meets its contract. Assumes nothing.
use mathlib.Core.Path.{ap₂}
use Prim.Native.Nat.{ℕ, ◌+◌, ◌*◌}
use borrow.Author.Tests.{not-true, not-false}
use Rattle.csn1.specs.Format.{num, ◌⨟◌}
use Rattle.csn1.specs.Told.{as_bit}
use Rattle.csn1.proofs.Writing.{flag_lt}
use Rattle.nch_write.proofs.Putting.{inks_no, sms_put}
use native.Mathlib.Omega.{arith}
use Rattle.nch_write.proofs.put_sms.Goals as goal

pub returns-then-not-here : goal.returns-then-not-here
returns-then-not-here c =
    let a = c.args in
    inks_no (num 1 ⨟ num 1) a.here (as_bit a.confidential, as_bit a.private) (not-true a.here c.if-not-here.true-raw) c.put.ensures

pub overflow_mul-bit_of : goal.overflow_mul-bit_of
overflow_mul-bit_of c =
    omega (arith, c.bit_of.ensures, flag_lt c.args.confidential)

pub overflow_add-bit_of : goal.overflow_add-bit_of
overflow_add-bit_of c =
    omega (arith, c.bit_of.ensures, flag_lt c.args.confidential)

pub overflow_add-bit_of-2 : goal.overflow_add-bit_of-2
overflow_add-bit_of-2 c =
    let a = c.args in
    omega (arith, c.bit_of.ensures, flag_lt a.confidential, c.bit_of-2.ensures, flag_lt a.private)

pub put-requires-2 : goal.put-requires-2
put-requires-2 c =
    let a = c.args in
    (omega arith, (c.requires, omega (arith, c.bit_of.ensures, flag_lt a.confidential, c.bit_of-2.ensures, flag_lt a.private)))

pub returns : goal.returns
returns c =
    let a = c.args in
    sms_put a.here a.confidential a.private (4 + 2 * c.bit_of.result + c.bit_of-2.result) (not-false a.here c.if-not-here.false-raw)
    (ap₂ (λ (x y : ℕ). 4 + 2 * x + y) c.bit_of.ensures c.bit_of-2.ensures) c.put-2.ensures

-- `bits::within` meets its contract. Assumes nothing.
use Rattle.bits.proofs.Answers.{too_wide, run_out, in_reach}
use native.Mathlib.Omega.{arith}
use Rattle.bits.proofs.within.Goals as goal

pub returns-then-width-gt64 : goal.returns-then-width-gt64
returns-then-width-gt64 c =
    let a = c.args in
    too_wide a.n a.at a.width (omega arith)

pub returns-then-n-at : goal.returns-then-n-at
returns-then-n-at c =
    let a = c.args in
    run_out a.n a.at a.width (omega arith)

pub returns-then-n-at-2 : goal.returns-then-n-at-2
returns-then-n-at-2 c =
    let a = c.args in
    run_out a.n a.at a.width (omega arith)

pub returns : goal.returns
returns c =
    let a = c.args in
    in_reach a.n a.at a.width (omega arith) (omega arith)

-- `bits::holds` meets its contract. Assumes nothing.
use Rattle.bits.proofs.Answers.{all-bits, none_above}
use native.Mathlib.Omega.{arith}
use Rattle.bits.proofs.holds.Goals as goal

pub returns-then-width-eq64 : goal.returns-then-width-eq64
returns-then-width-eq64 c =
    let a = c.args in
    all-bits a.width a.v (omega arith) (omega arith)

pub returns : goal.returns
returns c = none_above c.args.width c.args.v

-- `pen::octets::store` meets its contract. Assumes nothing.
use Rattle.pen.specs.Words.{whole}
use Rattle.pen.proofs.Digits.{stored-long, stored_short, stored-done}
use native.Mathlib.Omega.{arith}
use Rattle.pen.proofs.octets.store.Goals as goal

pub returns-then-n-gt23 : goal.returns-then-n-gt23
returns-then-n-gt23 c =
    let a = c.args in stored-long a.w a.used a.octets.now (omega arith)

pub returns-then-n-used : goal.returns-then-n-used
returns-then-n-used c =
    let a = c.args in stored_short a.w a.used a.octets.now (omega arith) (omega arith)

pub returns : goal.returns
returns c =
    let a = c.args in
    stored-done a.w a.used a.octets.now (omega arith) (omega arith) (whole c.pad-p.result) c.spread.new.octets c.pad-p.ensures c.spread.ensures

-- `text::put_decimal` meets its contract. Assumes nothing.
use mathlib.Core.Path.{◌∙◌}
use native.Mathlib.Omega.{arith}
use Rattle.text.proofs.Found.{found_digits}
use Rattle.text.proofs.put_decimal.Goals as goal

pub returns-clause-place : goal.returns-clause-place
returns-clause-place c =
    let d = c.find_decimal-k.ensures in
    let e = d.1.1 ∙ found_digits 10 (omega arith) 20 0 _ _ (omega arith) (omega arith) d.1.0 in
    rw e at c.put.ensures.place

pub returns-clause-octets : goal.returns-clause-octets
returns-clause-octets c =
    let d = c.find_decimal-k.ensures in
    let e = d.1.1 ∙ found_digits 10 (omega arith) 20 0 _ _ (omega arith) (omega arith) d.1.0 in
    rw e at c.put.ensures.octets

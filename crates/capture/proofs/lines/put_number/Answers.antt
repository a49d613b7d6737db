-- `capture::lines::put_number` meets its contract. Assumes nothing.
use Rattle.std.proofs.Common.{sym, ◌∙◌, arith}
use Rattle.text.proofs.Numerals.{length-numeral}
use Rattle.text.proofs.Lines.{placed_behind, fits_behind}
use Rattle.text.specs.Digits.{decimal}
use Rattle.capture.proofs.Texts.{placed, octet-added}
use Rattle.capture.proofs.lines.put_number.Goals as goal

pub unwrap-end-requires : goal.unwrap-end-requires
unwrap-end-requires c =
    let a = c.args in
    fits_behind a.out.now (decimal a.n) a.at _ (omega (arith, c.requires, length-numeral 10 20 0 a.n)) c.put_decimal.ensures.place

pub bounds-out-end : goal.bounds-out-end
bounds-out-end c =
    let a = c.args in
    let w = length-numeral 10 20 0 a.n in
    let e = placed_behind a.out.now (decimal a.n) _ a.at _ c.put_decimal.ensures.octets (sym c.put_decimal.ensures.place ∙ c.unwrap-end.ensures) in
    let p = placed (decimal a.n) a.out.now _ a.at _ (omega (arith, c.requires)) e in
    omega (arith, c.requires)

pub overflow_add-result : goal.overflow_add-result
overflow_add-result c =
    let a = c.args in
    let w = length-numeral 10 20 0 a.n in
    let e = placed_behind a.out.now (decimal a.n) _ a.at _ c.put_decimal.ensures.octets (sym c.put_decimal.ensures.place ∙ c.unwrap-end.ensures) in
    let p = placed (decimal a.n) a.out.now _ a.at _ (omega (arith, c.requires)) e in
    omega (arith, c.requires, c.well_formed)

pub returns : goal.returns
returns c =
    let a = c.args in
    let w = length-numeral 10 20 0 a.n in
    let e = placed_behind a.out.now (decimal a.n) _ a.at _ c.put_decimal.ensures.octets (sym c.put_decimal.ensures.place ∙ c.unwrap-end.ensures) in
    octet-added (decimal a.n) a.out.now _ a.at _ a.behind (omega (arith, c.requires)) e

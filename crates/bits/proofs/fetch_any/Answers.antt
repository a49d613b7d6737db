-- `bits::fetch_any` meets its contract. Assumes nothing.
use mathlib.Core.Path.{◌≡◌, sym, ap, ◌∙◌}
use Rattle.bits.specs.Field.{field}
use Rattle.bits.proofs.Laws.{field-zero}
use Rattle.bits.proofs.Answers.{has, fetched-short, fetched-bits}
use native.Mathlib.Omega.{arith}
use Rattle.bits.proofs.fetch_any.Goals as goal

pub returns-then-not-within : goal.returns-then-not-within
returns-then-not-within c =
    let a = c.args in
    fetched-short a.s.now a.at a.width c.within.result c.within.ensures c.if-not-within.true-raw

pub returns-then-width-eq0 : goal.returns-then-width-eq0
returns-then-width-eq0 c =
    let a = c.args in
    let z : a.width ≡ 0 = omega arith in
    fetched-bits a.s.now a.at a.width c.within.result c.within.ensures 0 c.if-not-within.false-raw (sym (ap (field a.s.now a.at) z ∙ field-zero a.s.now a.at))

pub window-requires : goal.window-requires
window-requires c =
    let a = c.args in
    (omega arith, has a.s.now a.at a.width c.within.result c.within.ensures c.if-not-within.false-raw)

pub returns : goal.returns
returns c =
    let a = c.args in
    fetched-bits a.s.now a.at a.width c.within.result c.within.ensures c.window.result c.if-not-within.false-raw c.window.ensures

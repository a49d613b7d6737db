-- `bits::fetch` meets its contract. Assumes nothing.
use mathlib.Core.Path.{◌≡◌, sym, ap, ◌∙◌}
use Rattle.bits.specs.Field.{fetched}
use Rattle.bits.proofs.Answers.{fetched-here}
use native.Mathlib.Omega.{arith}
use Rattle.bits.proofs.fetch.Goals as goal

pub returns-then-width-eq1 : goal.returns-then-width-eq1
returns-then-width-eq1 c =
    let a = c.args in
    let z : a.width ≡ 1 = omega arith in
    c.fetch_bit.ensures ∙ ap (fetched a.s.now a.at) (sym z)

pub returns-then-at-s : goal.returns-then-at-s
returns-then-at-s c =
    let a = c.args in
    fetched-here a.s.now a.at a.width c.ahead.result (omega arith) (omega arith) c.ahead.ensures

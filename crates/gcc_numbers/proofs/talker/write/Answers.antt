-- `gcc_numbers::talker::write` meets its contract. Assumes nothing.
use mathlib.Core.Path.{◌≡◌, refl, ap, ◌∙◌}
use mathlib.Core.Bool.{true}
use native.Mathlib.Omega.{arith}
use Rattle.gcc.specs.Talker.{number_of}
use Rattle.gcc_numbers.specs.ElementNumbers.{fits, talker_most}
use Rattle.gcc_numbers.proofs.Refusals.{code_13, code_12, fits-own, fits-at, code_fits}
use Rattle.gcc_numbers.proofs.talker.write.Goals as goal

pub returns-then-numbers-ne1 : goal.returns-then-numbers-ne1
returns-then-numbers-ne1 c = (code_13 1 talker_most c.args.numbers.now _ c.if-numbers-ne1.true, refl)

pub returns-then-not-holds : goal.returns-then-not-holds
returns-then-not-holds c =
    (code_12 1 talker_most c.args.numbers.now _ _ c.if-numbers-ne1.false c.holds.ensures c.if-not-holds.true-raw, refl)

pub overflow_cast-numbers : goal.overflow_cast-numbers
overflow_cast-numbers c =
    let fitting' : fits 1 talker_most c.args.numbers.now ≡ true = fits-own 1 talker_most c.args.numbers.now _ c.if-numbers-ne1.false c.holds.ensures c.if-not-holds.false-raw in
    omega (arith, fits-at 1 talker_most c.args.numbers.now fitting' 0 (omega arith))

pub returns : goal.returns
returns c =
    let fitting' : fits 1 talker_most c.args.numbers.now ≡ true = fits-own 1 talker_most c.args.numbers.now _ c.if-numbers-ne1.false c.holds.ensures c.if-not-holds.false-raw in
    (code_fits 1 talker_most c.args.numbers.now _ fitting', c.write.ensures ∙ ap number_of c.priority_of.ensures)

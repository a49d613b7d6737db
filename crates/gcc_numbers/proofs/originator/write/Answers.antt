-- `gcc_numbers::originator::write` meets its contract. Assumes nothing.
use mathlib.Core.Path.{◌≡◌, refl}
use mathlib.Core.Bool.{true}
use Rattle.gcc_numbers.specs.ElementNumbers.{fits, originator_most}
use Rattle.gcc_numbers.proofs.Refusals.{code_13, code_12, fits-own, code_fits}
use Rattle.gcc_numbers.proofs.originator.write.Goals as goal

pub returns-then-numbers-ne1 : goal.returns-then-numbers-ne1
returns-then-numbers-ne1 c = (code_13 1 originator_most c.args.numbers.now _ c.if-numbers-ne1.true, refl)

pub returns-then-not-holds : goal.returns-then-not-holds
returns-then-not-holds c =
    (code_12 1 originator_most c.args.numbers.now _ _ c.if-numbers-ne1.false c.holds.ensures c.if-not-holds.true-raw, refl)

pub returns : goal.returns
returns c =
    let fitting' : fits 1 originator_most c.args.numbers.now ≡ true = fits-own 1 originator_most c.args.numbers.now _ c.if-numbers-ne1.false c.holds.ensures c.if-not-holds.false-raw in
    (code_fits 1 originator_most c.args.numbers.now _ fitting', c.write.ensures)

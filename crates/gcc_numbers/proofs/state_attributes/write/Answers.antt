-- `gcc_numbers::state_attributes::write` meets its contract. Assumes nothing.
use mathlib.Core.Path.{◌≡◌, refl}
use mathlib.Core.Bool.{true}
use Rattle.gcc_numbers.specs.ElementNumbers.{fits, attributes_most}
use Rattle.gcc_numbers.proofs.Refusals.{code_13, code_12, fits-own, code_fits}
use Rattle.gcc_numbers.proofs.state_attributes.write.Goals as goal

pub returns-then-numbers-ne4 : goal.returns-then-numbers-ne4
returns-then-numbers-ne4 c = (code_13 4 attributes_most c.args.numbers.now _ c.if-numbers-ne4.true, refl)

pub returns-then-not-holds : goal.returns-then-not-holds
returns-then-not-holds c =
    (code_12 4 attributes_most c.args.numbers.now _ _ c.if-numbers-ne4.false c.holds.ensures c.if-not-holds.true-raw, refl)

pub returns : goal.returns
returns c =
    let fitting' : fits 4 attributes_most c.args.numbers.now ≡ true = fits-own 4 attributes_most c.args.numbers.now _ c.if-numbers-ne4.false c.holds.ensures c.if-not-holds.false-raw in
    (code_fits 4 attributes_most c.args.numbers.now _ fitting', c.write.ensures)

-- `text::digit` meets its contract. Assumes nothing.
use Rattle.std.proofs.Common.{arith}
use Rattle.std.proofs.lemmas.Grind.{common_steps}
use Rattle.text.specs.Digits.{value}
use Rattle.text.proofs.digit.Goals as goal

pub returns-in-48-to-57 : goal.returns-in-48-to-57
unfolding value
returns-in-48-to-57 c = grind (arith, common_steps)

pub returns-in-97-to-102 : goal.returns-in-97-to-102
unfolding value
returns-in-97-to-102 c = grind (arith, common_steps)

pub returns-in_default : goal.returns-in_default
unfolding value
returns-in_default c = grind (arith, common_steps)

pub returns-in_default-2 : goal.returns-in_default-2
unfolding value
returns-in_default-2 c = grind (arith, common_steps)

pub returns-in_default-3 : goal.returns-in_default-3
unfolding value
returns-in_default-3 c = grind (arith, common_steps)

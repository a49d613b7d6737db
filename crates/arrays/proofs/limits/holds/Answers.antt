-- `arrays::limits::holds` meets its contract. Assumes nothing.
use mathlib.Core.Path.{◌∙◌}
use Rattle.std.proofs.Common.{rules}
use Rattle.std.proofs.lemmas.Iterator.{YieldsList-from_slice, YieldsList-from_zip}
use Rattle.std.proofs.lemmas.Iterator.Search.{all_from_yields_List}
use borrow.Author.Tests.{tests}
use lib.Dec.{leb}
use Rattle.arrays.proofs.Within.{within-zip}
use Rattle.arrays.proofs.limits.holds.Goals as goal

pub returns : goal.returns
returns c =
    let a = c.args in
    all_from_yields_List (λ p. leb p.0 p.1) c.all.new.self _ _ c.all.ensures.ran
    (YieldsList-from_zip (YieldsList-from_slice a.numbers.now cc) (YieldsList-from_slice a.most.now cc)) (λ x b q k. search (rules, tests))
    ∙ within-zip a.numbers.now a.most.now

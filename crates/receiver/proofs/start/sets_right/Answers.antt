-- `receiver::start::sets_right` meets its contract. Assumes nothing.
use mathlib.Core.Path.{◌∙◌}
use borrow.Author.Tests.{eq-eqb}
use Rattle.std.proofs.Common.{rules, tests}
use Rattle.std.proofs.lemmas.Iterator.{YieldsList-from_slice}
use Rattle.std.proofs.lemmas.Iterator.Search.{all_from_yields_List}
use Rattle.receiver.specs.Count.{is_set}
use Rattle.receiver.proofs.Keys.{sets_all}
use Rattle.receiver.proofs.start.sets_right.Goals as goal

pub returns-then-sets-keys : goal.returns-then-sets-keys
returns-then-sets-keys c =
    rw (eq-eqb _ _ c.if-sets-keys.true)
    (all_from_yields_List is_set _ _ c.all.result c.all.ensures.ran (YieldsList-from_slice c.args.sets.now cc) (λ x b q k. search (rules, tests)) ∙ sets_all _)

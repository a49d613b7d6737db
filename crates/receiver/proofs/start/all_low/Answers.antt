-- `receiver::start::all_low` meets its contract. Assumes nothing.
use mathlib.Core.Path.{◌∙◌}
use Rattle.std.proofs.Common.{rules, tests, nat_le}
use Rattle.std.proofs.lemmas.Iterator.{YieldsList-from_slice}
use Rattle.std.proofs.lemmas.Iterator.Search.{all_from_yields_List}
use Rattle.receiver.specs.Model.{last_key}
use Rattle.receiver.proofs.Keys.{low_all}
use Rattle.receiver.proofs.start.all_low.Goals as goal

pub returns : goal.returns
returns c = all_from_yields_List (λ k. nat_le k last_key) _ _ c.all.result c.all.ensures.ran (YieldsList-from_slice c.args.keys.now cc) (λ x b q k. search (rules, tests)) ∙ low_all _

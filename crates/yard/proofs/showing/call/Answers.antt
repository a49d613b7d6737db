-- `yard::showing::call` meets its contract. Assumes nothing.
use mathlib.Core.Path.{ap, ◌∙◌}
use mathlib.Core.List.{[]}
use lib.ListN.{length}
use Rattle.csn1.specs.Told.{padded}
use Rattle.yard.proofs.ShownCalls.{not_yard}
use Rattle.yard.proofs.showing.call.Goals as goal

pub returns-then-b-ne-LENGTH : goal.returns-then-b-ne-LENGTH
returns-then-b-ne-LENGTH c =
    let a = c.args in
    let n = length a.numbers.now in
    (not_yard a.b.now 0 13 c.if-b-ne-LENGTH.true, c.clear.ensures ∙ ap (padded 0 n) (not_yard a.b.now _ [] c.if-b-ne-LENGTH.true))

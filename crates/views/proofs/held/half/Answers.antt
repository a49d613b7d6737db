-- `views::held::half` meets its contract. Assumes nothing.
use lib.ListN.{length}
use Rattle.views.proofs.Lines.{left-none}
use Rattle.views.proofs.held.half.Goals as goal

pub returns-then-b-ne-LENGTH : goal.returns-then-b-ne-LENGTH
returns-then-b-ne-LENGTH c =
    let a = c.args in
    left-none a.b.now (length a.numbers.now) _ _ c.if-b-ne-LENGTH.true c.clear.ensures

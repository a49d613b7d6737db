-- `layout::looking::thirds_empty` meets its contract. Assumes nothing.
use borrow.Author.Tests.{eqb-true}
use Rattle.layout.proofs.Left.{thirds}
use Rattle.layout.proofs.looking.thirds_empty.Goals as goal

pub returns : goal.returns
returns c = λ e. thirds _ _ _ (eqb-true _ _ e)

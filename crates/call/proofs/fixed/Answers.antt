-- `call::fixed` meets its contract. Assumes nothing.
use Rattle.call.proofs.fixed.Goals as goal

pub returns : goal.returns
returns c = cc

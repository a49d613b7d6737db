-- `call::no_call` meets its contract. Assumes nothing.
use Rattle.call.proofs.no_call.Goals as goal

pub returns : goal.returns
returns c = rw c.no_description.ensures

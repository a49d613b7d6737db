-- `call::refused_call` meets its contract. Assumes nothing.
use Rattle.call.proofs.refused_call.Goals as goal

pub returns : goal.returns
returns c = cc

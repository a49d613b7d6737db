-- `call::refused_description` meets its contract. Assumes nothing.
use Rattle.call.proofs.refused_description.Goals as goal

pub returns : goal.returns
returns c = cc

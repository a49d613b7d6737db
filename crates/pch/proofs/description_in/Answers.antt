-- `pch::description_in` meets its contract. Assumes nothing.
use Rattle.pch.proofs.description_in.Goals as goal

pub returns : goal.returns
returns c = cc

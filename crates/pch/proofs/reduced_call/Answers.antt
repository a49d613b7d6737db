-- `pch::reduced_call` meets its contract. Assumes nothing.
use Rattle.pch.proofs.reduced_call.Goals as goal

pub returns : goal.returns
returns c = cc

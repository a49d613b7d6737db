-- `pch::refused` meets its contract. Assumes nothing.
use Rattle.pch.proofs.refused.Goals as goal

pub returns : goal.returns
returns c = cc

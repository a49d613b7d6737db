-- `pch::no_entry` meets its contract. Assumes nothing.
use Rattle.pch.proofs.no_entry.Goals as goal

pub returns : goal.returns
returns c = cc

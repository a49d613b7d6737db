-- `pch::is_flag` meets its contract. Assumes nothing.
use Rattle.pch.proofs.is_flag.Goals as goal

pub returns : goal.returns
returns c = rw c.number_at.ensures

-- `pch::is_set` meets its contract. Assumes nothing.
use Rattle.pch.proofs.is_set.Goals as goal

pub returns : goal.returns
returns c = rw c.number_at.ensures

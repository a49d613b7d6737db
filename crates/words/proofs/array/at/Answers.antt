-- `words::array::at` meets its contract. Assumes nothing.
use Rattle.words.specs.Array.{window_of}
use Rattle.words.proofs.array.at.Goals as goal

pub returns : goal.returns
unfolding window_of
returns c = c.funnel.ensures.0

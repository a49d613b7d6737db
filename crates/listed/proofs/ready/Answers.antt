-- `listed::ready` meets its contract: the setup is accepted. Assumes nothing.
use mathlib.Core.Path.{refl}
use Rattle.receiver.specs.Count.{all_sets}
use Rattle.receiver.specs.Halving.{rises}
use Rattle.receiver.specs.Model.{all_low, setup_right, started_of}
use Rattle.listed.proofs.ready.Goals as goal

pub unwrap-requires : goal.unwrap-requires
unfolding started_of setup_right all_low rises all_sets
unwrap-requires c = rw c.start.ensures refl

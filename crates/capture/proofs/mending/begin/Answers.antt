-- `capture::mending::begin` meets its contract. Assumes nothing.
use Rattle.std.proofs.Common.{ap}
use Rattle.capture.specs.declared.Replay.{Replay}
use Rattle.capture.proofs.mending.begin.Goals as goal

pub returns : goal.returns
returns c = ap (λ (r : Replay). record { replay = r; offset = 0 }) c.begin.ensures

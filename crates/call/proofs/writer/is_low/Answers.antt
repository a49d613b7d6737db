-- `call::writer::is_low` meets its contract. Assumes nothing.
use mathlib.Core.Path.{refl}
use Rattle.call.specs.Write.{call_is_low}
use Rattle.call.proofs.writer.is_low.Goals as goal

pub returns : goal.returns
unfolding call_is_low
returns c = refl

-- `capture::mending::further` meets its contract. Assumes nothing.
use Rattle.capture.proofs.Mendings.{wrap_twice}
use Rattle.capture.proofs.mending.further.Goals as goal

pub returns : goal.returns
returns c =
    wrap_twice _ _ _ _ c.wrapping_add_u64.ensures.value c.wrapping_add_u64-2.ensures.value

-- `layout::octets::u64_at` meets its contract. Assumes nothing.
use native.Mathlib.Omega.{arith}
use Rattle.layout.proofs.Numbers.{le_bytes}
use Rattle.layout.proofs.octets.u64_at.Goals as goal

pub returns : goal.returns
returns c = rw le_bytes (omega arith)

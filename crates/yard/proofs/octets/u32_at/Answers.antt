-- `yard::octets::u32_at` meets its contract. Assumes nothing.
use native.Mathlib.Omega.{arith}
use Rattle.layout.proofs.Numbers.{le4}
use Rattle.yard.proofs.octets.u32_at.Goals as goal

pub returns : goal.returns
returns c = rw le4 (omega arith)

-- `pch::full_call` meets its contract. Assumes nothing.
use native.Mathlib.Omega.{arith}
use Rattle.pch.proofs.full_call.Goals as goal

pub overflow_cast-result : goal.overflow_cast-result
overflow_cast-result c = let f = c.requires in let h = f.0.head f.1 in omega (arith, c.number_at-head.ensures, h)

pub returns : goal.returns
returns c = cc

-- `nch::numbers::numbers_of` meets its contract. Assumes nothing.
use Rattle.nch.specs.CallNumbers.{call_numbers}
use Rattle.csn1.proofs.Writing.{flag_byte}
use native.Mathlib.Omega.{arith}
use Rattle.nch.proofs.numbers.numbers_of.Goals as goal

pub overflow_cast-result-10 : goal.overflow_cast-result-10
overflow_cast-result-10 c = omega (arith, c.struct_known-10-1.given.1.1.1.1.1.1.0)

pub returns : goal.returns
unfolding call_numbers
returns c = simp flag_byte

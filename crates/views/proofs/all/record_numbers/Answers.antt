-- `views::all::record_numbers` meets its contract. Assumes nothing.
use native.Mathlib.Omega.{arith}
use Rattle.csn1.proofs.Writing.{flag_byte}
use Rattle.views.proofs.all.record_numbers.Goals as goal

pub overflow_cast-result-25 : goal.overflow_cast-result-25
overflow_cast-result-25 c = omega (arith, c.struct_known-25-1.given.1.0.1.1.1.1.1.1.0)

pub overflow_cast-result-26 : goal.overflow_cast-result-26
overflow_cast-result-26 c = omega (arith, c.struct_known-26-1.given.1.1.1.1.1.1.1.0)

pub overflow_cast-result-27 : goal.overflow_cast-result-27
overflow_cast-result-27 c = omega (arith, c.struct_known-27-1.given.1.1.1.1.1.1.1.0)

pub overflow_cast-result-28 : goal.overflow_cast-result-28
overflow_cast-result-28 c = omega (arith, c.struct_known-28-1.given.1.1.1.1.1.1.1.0)

pub returns : goal.returns
returns c = simp flag_byte

-- `layout::octets::put_two` meets its contract. Assumes nothing.
use native.Mathlib.Numerals.{towards_suc}
use native.Mathlib.Omega.{arith}
use lib.ListN.{length-set}
use Rattle.arrays.specs.Runs.{stored}
use Rattle.layout.proofs.octets.put_two.Goals as goal

pub bounds-b-at-2 : goal.bounds-b-at-2
bounds-b-at-2 c = simp length-set (omega arith)

pub returns : goal.returns
unfolding stored
returns c = simp towards_suc

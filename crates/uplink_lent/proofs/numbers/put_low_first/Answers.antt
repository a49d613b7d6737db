-- `uplink_lent::numbers::put_low_first` meets its contract. Assumes nothing.
use native.Mathlib.Numerals.{towards_suc}
use native.Mathlib.Omega.{arith}
use lib.ListN.{length-set}
use Rattle.arrays.specs.Runs.{stored}
use Rattle.uplink_lent.proofs.numbers.put_low_first.Goals as goal

pub bounds-b-i-2 : goal.bounds-b-i-2
bounds-b-i-2 c = simp length-set (omega arith)

pub bounds-b-i-3 : goal.bounds-b-i-3
bounds-b-i-3 c = simp length-set (omega arith)

pub bounds-b-i-4 : goal.bounds-b-i-4
bounds-b-i-4 c = simp length-set (omega arith)

pub returns : goal.returns
unfolding stored
returns c = simp towards_suc

-- `layout::records::put_flags` meets its contract. Assumes nothing.
use native.Mathlib.Numerals.{towards_suc}
use native.Mathlib.Omega.{arith}
use lib.ListN.{length-set}
use Rattle.csn1.proofs.Writing.{flag_byte}
use Rattle.arrays.specs.Runs.{stored}
use Rattle.layout.proofs.records.put_flags.Goals as goal

pub bounds-b-at-2 : goal.bounds-b-at-2
bounds-b-at-2 c = simp length-set (omega arith)

pub bounds-b-at-3 : goal.bounds-b-at-3
bounds-b-at-3 c = simp length-set (omega arith)

pub bounds-b-at-4 : goal.bounds-b-at-4
bounds-b-at-4 c = simp length-set (omega arith)

pub bounds-b-at-5 : goal.bounds-b-at-5
bounds-b-at-5 c = simp length-set (omega arith)

pub returns : goal.returns
unfolding stored
returns c = simp (towards_suc, flag_byte)

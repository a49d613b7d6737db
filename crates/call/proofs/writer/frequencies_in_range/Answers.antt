-- `call::writer::frequencies_in_range` meets its contract. Assumes nothing.
use borrow.Author.Tests.{not-true, not-false, lt-ltb, eq-eqb, ne_eqb}
use Prim.Native.Nat.{◌*◌}
use Rattle.bits.proofs.Answers.{none_above}
use Rattle.call.proofs.Laws.{long-list}
use native.Mathlib.Omega.{arith}
use Rattle.call.proofs.writer.frequencies_in_range.Goals as goal

pub returns-then-shortlist : goal.returns-then-shortlist
returns-then-shortlist c = let a = c.args in rw (not-true a.hopping c.if-not-hopping.true-raw, c.if-shortlist.true)

pub returns-then-length-ne0 : goal.returns-then-length-ne0
returns-then-length-ne0 c = let a = c.args in rw (not-true a.hopping c.if-not-hopping.true-raw, c.if-shortlist.false, ne_eqb a.length 0 c.if-length-ne0.true)

pub returns-then-not-hopping : goal.returns-then-not-hopping
returns-then-not-hopping c = let a = c.args in rw (not-true a.hopping c.if-not-hopping.true-raw, c.if-shortlist.false, eq-eqb a.length 0 c.if-length-ne0.false)

pub returns-then-shortlist-2 : goal.returns-then-shortlist-2
returns-then-shortlist-2 c = let a = c.args in rw (not-false a.hopping c.if-not-hopping.false-raw, c.if-shortlist-2.true, lt-ltb a.frequencies 18446744073709551616 (omega arith))

pub returns-then-length-gt7 : goal.returns-then-length-gt7
returns-then-length-gt7 c = let a = c.args in rw (not-false a.hopping c.if-not-hopping.false-raw, c.if-shortlist-2.false) (long-list a.length a.frequencies c.if-length-gt7.true (omega arith))

pub returns : goal.returns
returns c = let a = c.args in rw (not-false a.hopping c.if-not-hopping.false-raw, c.if-shortlist-2.false) (none_above (8 * a.length) a.frequencies)

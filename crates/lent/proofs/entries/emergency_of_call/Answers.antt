-- `lent::entries::emergency_of_call` meets its contract. Assumes nothing.
use Prim.Native.Nat.{◌+◌}
use lib.ListN.{get_or}
use borrow.Author.Tests.{eq-eqb, ne_eqb}
use Rattle.nch.specs.CallNumbers.{call_by}
use Rattle.lent.proofs.FromNumbers.{mark_past, mark_there}
use native.Mathlib.Omega.{arith}
use Rattle.lent.proofs.entries.emergency_of_call.Goals as goal

pub returns-then-m-at-ne1 : goal.returns-then-m-at-ne1
unfolding call_by
returns-then-m-at-ne1 c = let a = c.args in rw (ne_eqb (get_or a.m.now (a.at + 5) 0) 1 c.if-m-at-ne1.true)

pub returns-then-m-k : goal.returns-then-m-k
unfolding call_by
returns-then-m-k c =
    let a = c.args in
    rw (eq-eqb (get_or a.m.now (a.at + 5) 0) 1 c.if-m-at-ne1.false, mark_past a.m.now a.k (omega arith))

pub returns : goal.returns
unfolding call_by
returns c =
    let a = c.args in
    rw (eq-eqb (get_or a.m.now (a.at + 5) 0) 1 c.if-m-at-ne1.false, mark_there a.m.now a.k c.requires.1.0 (omega arith))

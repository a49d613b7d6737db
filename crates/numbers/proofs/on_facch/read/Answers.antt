-- `numbers::on_facch::read` meets its contract. Assumes nothing.
use lib.ListN.{length}
use Rattle.numbers.proofs.FacchRuns.{left-refused, left-all, left-first}
use native.Mathlib.Omega.{arith}
use Rattle.numbers.proofs.on_facch.read.Goals as goal

pub returns-then-r-ne0 : goal.returns-then-r-ne0
returns-then-r-ne0 c =
    let a = c.args in
    left-refused a.octets.now c.read-r.result c.read-r.ensures c.if-r-ne0.true (length a.numbers.now) _ c.clear.ensures

pub returns-then-numbers-ge-LENGTH : goal.returns-then-numbers-ge-LENGTH
returns-then-numbers-ge-LENGTH c =
    let a = c.args in
    left-all a.octets.now c.read-r.result c.read-r.ensures a.numbers.now _ _ (omega arith) c.put_all.ensures c.clear-then-numbers-ge-LENGTH.ensures

pub returns : goal.returns
returns c =
    let a = c.args in
    left-first a.octets.now c.read-r.result c.read-r.ensures (length a.numbers.now) _ _ c.put_all-2.ensures c.store.ensures

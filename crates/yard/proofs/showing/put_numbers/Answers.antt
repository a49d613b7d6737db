-- `yard::showing::put_numbers` meets its contract. Assumes nothing.
use native.Mathlib.Omega.{arith}
use lib.ListN.{length}
use Rattle.yard.specs.Inner.{numbers_of}
use Rattle.yard.proofs.ShownCalls.{put_next, put_all}
use Rattle.yard.proofs.showing.put_numbers.Goals as goal

pub loop-k-preserved : goal.loop-k-preserved
loop-k-preserved c =
    let l = c.loop-k in
    let a = c.args in
    put_next (length a.numbers.now) (numbers_of a.b.now a.i) l.numbers l.k _ l.auto.numbers (omega (arith, c.loop-k-test.true, l.auto.numbers)) c.number_at.ensures l.invariant

pub returns : goal.returns
returns c =
    let l = c.loop-k in
    let a = c.args in
    put_all (length a.numbers.now) (numbers_of a.b.now a.i) l.numbers l.k l.auto.numbers (omega (arith, c.loop-k-test.false, l.auto.numbers)) l.invariant

-- `bits::put` meets its contract. Assumes nothing.
use Prim.Native.Nat.{◌+◌, ◌*◌, ◌/◌, ◌%◌}
use Rattle.bits.proofs.Answers.{has, put_outside, put_large, put_inside}
use native.Mathlib.Omega.{arith}
use Rattle.bits.proofs.put.Goals as goal

pub returns-then-not-within : goal.returns-then-not-within
returns-then-not-within c =
    let a = c.args in
    put_outside a.buf.now a.at a.width c.within.result c.within.ensures a.v c.if-not-within.true-raw

pub holds-requires : goal.holds-requires
holds-requires c =
    let a = c.args in
    (has a.buf.now a.at a.width c.within.result c.within.ensures c.if-not-within.false-raw).0

pub returns-then-not-holds : goal.returns-then-not-holds
returns-then-not-holds c =
    let a = c.args in
    put_large a.buf.now a.at a.width c.within.result c.within.ensures a.v c.holds.result c.holds.ensures c.if-not-holds.true-raw

pub put_octets-requires : goal.put_octets-requires
put_octets-requires c =
    let a = c.args in
    let h = has a.buf.now a.at a.width c.within.result c.within.ensures c.if-not-within.false-raw in
    omega arith

pub returns : goal.returns
returns c =
    let a = c.args in
    put_inside a.buf.now a.at a.width c.within.result c.within.ensures a.v c.holds.result c.put_octets.new.buf
    (a.at / 8 * 8 + a.at % 8) c.if-not-within.false-raw c.holds.ensures c.if-not-holds.false-raw (omega arith)
    c.put_octets.ensures

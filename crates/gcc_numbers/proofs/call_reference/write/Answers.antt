-- `gcc_numbers::call_reference::write` meets its contract. Assumes nothing.
use mathlib.Core.Path.{◌≡◌}
use mathlib.Core.Bool.{true}
use Prim.Native.Nat.{◌≤◌}
use lib.ListN.{get_or}
use native.Mathlib.Omega.{arith}
use Rattle.arrays.specs.Limits.{flag, word}
use Rattle.gcc_numbers.specs.ElementNumbers.{fits, reference_most}
use Rattle.gcc_numbers.proofs.Refusals.{fits-own, fits-at, octets_13, octets_12, octets-own}
use Rattle.gcc_numbers.proofs.call_reference.write.Goals as goal

pub returns-then-numbers-ne3 : goal.returns-then-numbers-ne3
returns-then-numbers-ne3 c =
    let a = c.args in
    octets_13 3 reference_most a.numbers.now _ _ a.octets.now c.if-numbers-ne3.true

pub returns-then-not-holds : goal.returns-then-not-holds
returns-then-not-holds c =
    let a = c.args in
    octets_12 3 reference_most a.numbers.now _ _ a.octets.now _ c.if-numbers-ne3.false c.holds.ensures c.if-not-holds.true-raw

pub overflow_mul-numbers : goal.overflow_mul-numbers
overflow_mul-numbers c =
    let fitting' : fits 3 reference_most c.args.numbers.now ≡ true = fits-own 3 reference_most c.args.numbers.now _ c.if-numbers-ne3.false c.holds.ensures c.if-not-holds.false-raw in
    let flagged' : get_or c.args.numbers.now 1 0 ≤ flag = fits-at 3 reference_most c.args.numbers.now fitting' 1 (omega arith) in
    omega (arith, flagged')

pub overflow_mul-numbers-2 : goal.overflow_mul-numbers-2
overflow_mul-numbers-2 c =
    let fitting' : fits 3 reference_most c.args.numbers.now ≡ true = fits-own 3 reference_most c.args.numbers.now _ c.if-numbers-ne3.false c.holds.ensures c.if-not-holds.false-raw in
    let level' : get_or c.args.numbers.now 2 0 ≤ 7 = fits-at 3 reference_most c.args.numbers.now fitting' 2 (omega arith) in
    omega (arith, level')

pub overflow_add-numbers : goal.overflow_add-numbers
overflow_add-numbers c =
    let fitting' : fits 3 reference_most c.args.numbers.now ≡ true = fits-own 3 reference_most c.args.numbers.now _ c.if-numbers-ne3.false c.holds.ensures c.if-not-holds.false-raw in
    let flagged' : get_or c.args.numbers.now 1 0 ≤ flag = fits-at 3 reference_most c.args.numbers.now fitting' 1 (omega arith) in
    let level' : get_or c.args.numbers.now 2 0 ≤ 7 = fits-at 3 reference_most c.args.numbers.now fitting' 2 (omega arith) in
    omega (arith, flagged', level')

pub overflow_cast-numbers : goal.overflow_cast-numbers
overflow_cast-numbers c =
    let fitting' : fits 3 reference_most c.args.numbers.now ≡ true = fits-own 3 reference_most c.args.numbers.now _ c.if-numbers-ne3.false c.holds.ensures c.if-not-holds.false-raw in
    let flagged' : get_or c.args.numbers.now 1 0 ≤ flag = fits-at 3 reference_most c.args.numbers.now fitting' 1 (omega arith) in
    let level' : get_or c.args.numbers.now 2 0 ≤ 7 = fits-at 3 reference_most c.args.numbers.now fitting' 2 (omega arith) in
    omega (arith, flagged', level')

pub overflow_cast-numbers-2 : goal.overflow_cast-numbers-2
overflow_cast-numbers-2 c =
    let fitting' : fits 3 reference_most c.args.numbers.now ≡ true = fits-own 3 reference_most c.args.numbers.now _ c.if-numbers-ne3.false c.holds.ensures c.if-not-holds.false-raw in
    let reference' : get_or c.args.numbers.now 0 0 ≤ word = fits-at 3 reference_most c.args.numbers.now fitting' 0 (omega arith) in
    omega (arith, reference')

pub returns : goal.returns
returns c =
    let fitting' : fits 3 reference_most c.args.numbers.now ≡ true = fits-own 3 reference_most c.args.numbers.now _ c.if-numbers-ne3.false c.holds.ensures c.if-not-holds.false-raw in
    let e = c.priority_of-priority.ensures in
    octets-own 3 reference_most c.args.numbers.now _ _ _ c.write.result _ fitting' (rw e at c.write.ensures.0) (rw e at c.write.ensures.1)

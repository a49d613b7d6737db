-- `nch_write::calls::counted` meets its contract. Assumes nothing.
use mathlib.Core.Path.{refl}
use Prim.Native.Nat.{◌<◌}
use lib.Dec.{leb}
use lib.ListN.{length, get_or}
use Rattle.csn1.proofs.Writing.{byte_lt}
use Rattle.call.specs.declared.Call.{Call}
use Rattle.call.specs.Call.{ciphered, no_call}
use Rattle.nch.specs.Write.{is_described}
use Rattle.nch_write.proofs.Counting.{counted_begin, counted_next, counted-past, counted-end}
use native.Mathlib.Omega.{arith}
use Rattle.nch_write.proofs.calls.counted.Goals as goal
use Rattle.nch_write.proofs.calls.counted.Goals.{then-i-n, else-i-n}

pub loop-i-init : goal.loop-i-init
loop-i-init c = (counted_begin ciphered _ _, counted_begin is_described _ _)

pub overflow_cast-coded : goal.overflow_cast-coded
overflow_cast-coded c = tt

pub overflow_add-coded : goal.overflow_add-coded
overflow_add-coded c =
    let one' : Call = get_or c.args.calls c.loop-i.i no_call in
    omega (arith, c.loop-i.invariant.0.few, byte_lt (leb 1 one'.cipher))

pub overflow_add-described : goal.overflow_add-described
overflow_add-described c =
    let one' : Call = get_or c.args.calls c.loop-i.i no_call in
    omega (arith, c.loop-i.invariant.1.few, byte_lt one'.hasDescription)

pub loop-i-preserved : goal.loop-i-preserved
loop-i-preserved c =
    let one' : Call = get_or c.args.calls c.loop-i.i no_call in
    let h : c.loop-i.i < length c.args.calls = omega arith in
    let p = c.loop-i.invariant in
    elim c.if-i-n.branch [
      | then-i-n w ↦ (
        rw w.coded-is (counted_next ciphered _ _ _ _ p.0 no_call h w.if-i-n.true (leb 1 one'.cipher) refl),
        rw w.described-is (counted_next is_described _ _ _ _ p.1 no_call h w.if-i-n.true one'.hasDescription refl),
      )
      | else-i-n w ↦ (rw w.coded-is (counted-past ciphered _ _ _ _ p.0 w.if-i-n.false), rw w.described-is (counted-past is_described _ _ _ _ p.1 w.if-i-n.false))
    ]

pub returns : goal.returns
returns c =
    let l = c.loop-i.invariant in
    (counted-end ciphered _ _ _ _ l.0 (omega arith), counted-end is_described _ _ _ _ l.1 (omega arith))

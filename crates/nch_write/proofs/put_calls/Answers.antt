-- `nch_write::put_calls` meets its contract. Assumes nothing.
use mathlib.Core.Path.{◌≡◌}
use lib.ListN.{length, get_or}
use Rattle.csn1.proofs.Holding.{length-num_bits}
use Rattle.csn1.proofs.Putting.{used-next, used-end}
use Rattle.call.specs.Call.{group_call, call_value, no_call}
use Rattle.nch.specs.Inner.{call_right}
use Rattle.nch_write.proofs.Putting.{all-at, items_begin, items-next, items-end}
use native.Mathlib.Omega.{arith}
use Rattle.nch_write.proofs.put_calls.Goals as goal

pub loop-i-init : goal.loop-i-init
loop-i-init c =
    (omega arith, (omega arith, items_begin group_call))

pub put_call-q-requires : goal.put_call-q-requires
put_call-q-requires c =
    let l = c.loop-i in
    let size : length c.args.calls ≡ 4 = omega arith in
    (omega (arith, c.requires.1.0, l.invariant.1.0), all-at call_right no_call c.args.calls c.args.count l.i c.requires.1.1 (omega arith) (omega arith))

pub loop-i-preserved : goal.loop-i-preserved
loop-i-preserved c =
    let l = c.loop-i in
    let size : length c.args.calls ≡ 4 = omega arith in
    let f = c.put_call-q.ensures in
    let next = used-next call_value no_call c.args.calls c.args.count l.i (omega arith) (omega arith) in
    (omega arith, (omega (arith, l.invariant.1.0, f.1), items-next group_call (call_value (get_or c.args.calls l.i no_call)) l.invariant.1.1 next f.0))

pub put-requires : goal.put-requires
put-requires c =
    (omega arith, (omega (arith, c.requires.1.0, c.loop-i.invariant.1.0), omega arith))

pub returns : goal.returns
returns c =
    let l = c.loop-i in
    let f = c.put.ensures in
    (items-end group_call l.invariant.1.1 (used-end call_value no_call c.args.calls c.args.count l.i (omega arith)) f, omega (arith, l.invariant.1.0, f.next, length-num_bits 1 0))

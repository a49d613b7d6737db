-- `nch_write::put_marks` meets its contract. Assumes nothing.
use mathlib.Core.Path.{◌≡◌}
use lib.ListN.{length, get_or}
use Rattle.csn1.proofs.Holding.{length-num_bits}
use Rattle.csn1.proofs.Putting.{used-next, used-end}
use mathlib.Core.Bool.{false}
use Rattle.csn1.specs.Format.{num}
use Rattle.csn1.specs.Told.{as_bit}
use Rattle.nch_write.proofs.Putting.{items_begin, items-next, items-end}
use native.Mathlib.Omega.{arith}
use Rattle.nch_write.proofs.put_marks.Goals as goal

pub loop-i-init : goal.loop-i-init
loop-i-init c =
    (omega arith, (omega arith, items_begin (num 1)))

pub put_mark-q-requires : goal.put_mark-q-requires
put_mark-q-requires c =
    omega (arith, c.requires.1, c.loop-i.invariant.1.0)

pub loop-i-preserved : goal.loop-i-preserved
loop-i-preserved c =
    let l = c.loop-i in
    let size : length c.args.marks ≡ 4 = omega arith in
    let f = c.put_mark-q.ensures in
    let next = used-next as_bit false c.args.marks c.args.count l.i (omega arith) (omega arith) in
    (omega arith, (omega (arith, l.invariant.1.0, f.1), items-next (num 1) (as_bit (get_or c.args.marks l.i false)) l.invariant.1.1 next f.0))

pub put-requires : goal.put-requires
put-requires c =
    (omega arith, (omega (arith, c.requires.1, c.loop-i.invariant.1.0), omega arith))

pub returns : goal.returns
returns c =
    let l = c.loop-i in
    let f = c.put.ensures in
    (items-end (num 1) l.invariant.1.1 (used-end as_bit false c.args.marks c.args.count l.i (omega arith)) f, omega (arith, l.invariant.1.0, f.next, length-num_bits 1 0))

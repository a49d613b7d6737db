-- `nch_write::put_reduceds` meets its contract. Assumes nothing.
use mathlib.Core.Path.{◌≡◌}
use lib.ListN.{length, get_or}
use Rattle.csn1.proofs.Holding.{length-num_bits}
use Rattle.csn1.proofs.Putting.{used-next, used-end}
use Rattle.csn1.specs.Grammar.{format}
use Rattle.nch.specs.Octets.{reduced}
use Rattle.nch.specs.Told.{reduced_value, no_reduced}
use Rattle.nch.specs.Write.{reduced_in_range}
use Rattle.nch_write.proofs.Putting.{all-at, items_begin, items-next, items-end}
use native.Mathlib.Omega.{arith}
use Rattle.nch_write.proofs.put_reduceds.Goals as goal

pub loop-i-init : goal.loop-i-init
loop-i-init c =
    (omega arith, (omega arith, items_begin (format reduced)))

pub put_reduced-q-requires : goal.put_reduced-q-requires
put_reduced-q-requires c =
    let l = c.loop-i in
    let size : length c.args.items ≡ 5 = omega arith in
    (omega (arith, c.requires.1.0, l.invariant.1.0), all-at reduced_in_range no_reduced c.args.items c.args.count l.i c.requires.1.1 (omega arith) (omega arith))

pub loop-i-preserved : goal.loop-i-preserved
loop-i-preserved c =
    let l = c.loop-i in
    let size : length c.args.items ≡ 5 = omega arith in
    let f = c.put_reduced-q.ensures in
    let next = used-next reduced_value no_reduced c.args.items c.args.count l.i (omega arith) (omega arith) in
    (omega arith, (omega (arith, l.invariant.1.0, f.1), items-next (format reduced) (reduced_value (get_or c.args.items l.i no_reduced)) l.invariant.1.1 next f.0))

pub put-requires : goal.put-requires
put-requires c =
    (omega arith, (omega (arith, c.requires.1.0, c.loop-i.invariant.1.0), omega arith))

pub returns : goal.returns
returns c =
    let l = c.loop-i in
    let f = c.put.ensures in
    (items-end (format reduced) l.invariant.1.1 (used-end reduced_value no_reduced c.args.items c.args.count l.i (omega arith)) f, omega (arith, l.invariant.1.0, f.next, length-num_bits 1 0))

-- `nch_write::put_randoms` meets its contract. Assumes nothing.
use mathlib.Core.Path.{◌≡◌}
use lib.ListN.{length, get_or}
use Rattle.csn1.proofs.Holding.{length-num_bits}
use Rattle.csn1.proofs.Putting.{used-next, used-end}
use Rattle.csn1.specs.Grammar.{format}
use Rattle.nch.specs.Octets.{random}
use Rattle.nch.specs.Told.{random_value, no_random}
use Rattle.nch.specs.Write.{random_in_range}
use Rattle.nch_write.proofs.Putting.{all-at, items_begin, items-next, items-end}
use native.Mathlib.Omega.{arith}
use Rattle.nch_write.proofs.put_randoms.Goals as goal

pub loop-i-init : goal.loop-i-init
loop-i-init c =
    (omega arith, (omega arith, items_begin (format random)))

pub put_random-q-requires : goal.put_random-q-requires
put_random-q-requires c =
    let l = c.loop-i in
    let size : length c.args.items ≡ 9 = omega arith in
    (omega (arith, c.requires.1.0, l.invariant.1.0), all-at random_in_range no_random c.args.items c.args.count l.i c.requires.1.1 (omega arith) (omega arith))

pub loop-i-preserved : goal.loop-i-preserved
loop-i-preserved c =
    let l = c.loop-i in
    let size : length c.args.items ≡ 9 = omega arith in
    let f = c.put_random-q.ensures in
    let next = used-next random_value no_random c.args.items c.args.count l.i (omega arith) (omega arith) in
    (omega arith, (omega (arith, l.invariant.1.0, f.1), items-next (format random) (random_value (get_or c.args.items l.i no_random)) l.invariant.1.1 next f.0))

pub put-requires : goal.put-requires
put-requires c =
    (omega arith, (omega (arith, c.requires.1.0, c.loop-i.invariant.1.0), omega arith))

pub returns : goal.returns
returns c =
    let l = c.loop-i in
    let f = c.put.ensures in
    (items-end (format random) l.invariant.1.1 (used-end random_value no_random c.args.items c.args.count l.i (omega arith)) f, omega (arith, l.invariant.1.0, f.next, length-num_bits 1 0))

-- `gcc_numbers::are_octets` meets its contract. Assumes nothing.
use mathlib.Core.Path.{refl}
use native.Mathlib.Omega.{arith}
use Rattle.gcc_numbers.proofs.Octets.{octets-next, octets_not, octets-end}
use Rattle.gcc_numbers.proofs.are_octets.Goals as goal

pub loop-i-init : goal.loop-i-init
loop-i-init c = (omega arith, refl)

pub returns-then-numbers-i-gt255 : goal.returns-then-numbers-i-gt255
returns-then-numbers-i-gt255 c =
    octets_not c.args.numbers.now c.loop-i.i c.loop-i.invariant.1 (omega arith) c.if-numbers-i-gt255.true

pub loop-i-preserved : goal.loop-i-preserved
loop-i-preserved c =
    (omega arith, octets-next c.args.numbers.now c.loop-i.i c.loop-i.invariant.1 (omega arith) c.if-numbers-i-gt255.false)

pub returns : goal.returns
returns c = octets-end c.args.numbers.now c.loop-i.i c.loop-i.invariant.1 (omega arith)

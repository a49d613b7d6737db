-- `gcc_numbers::narrow` meets its contract. Assumes nothing.
use mathlib.Core.Path.{refl, ◌∙◌}
use lib.ListN.{get_or, length-set}
use native.Mathlib.Omega.{arith}
use Rattle.arrays.proofs.Filling.{copied_next, copied}
use Rattle.gcc_numbers.proofs.narrow.Goals as goal

pub loop-i-init : goal.loop-i-init
loop-i-init c = (omega arith, (refl, refl))

pub overflow_cast-octets : goal.overflow_cast-octets
overflow_cast-octets c = omega (arith, c.requires.1 c.loop-i.i)

pub loop-i-preserved : goal.loop-i-preserved
loop-i-preserved c =
    let l = c.loop-i in
    let v = c.args.numbers.now in
    (omega arith, (length-set l.octets l.i (get_or v l.i 0) ∙ l.invariant.1.0, copied_next v l.octets l.i l.invariant.1.1 (omega arith) (omega arith)))

pub shape_of-octets : goal.shape_of-octets
shape_of-octets c = c.loop-i.invariant.1.0

pub returns : goal.returns
returns c =
    let l = c.loop-i in
    copied c.args.numbers.now l.octets l.i l.invariant.1.1 (omega arith) (omega arith)

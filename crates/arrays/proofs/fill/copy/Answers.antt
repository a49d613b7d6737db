-- `arrays::fill::copy` meets its contract. Assumes nothing.
use mathlib.Core.Path.{refl, ◌∙◌}
use lib.ListN.{length, get_or, length-set}
use Rattle.arrays.proofs.Filling.{copied_next, copied-most}
use native.Mathlib.Omega.{arith}
use Rattle.arrays.proofs.fill.copy.Goals as goal

pub loop-i-init : goal.loop-i-init
loop-i-init c = (omega arith, (refl, refl))

pub loop-i-preserved : goal.loop-i-preserved
loop-i-preserved c =
    let l = c.loop-i in
    let v = c.args.values.now in
    (omega arith, (length-set l.numbers l.i (get_or v l.i 0) ∙ l.invariant.1.0, copied_next v l.numbers l.i l.invariant.1.1 (omega arith) (omega arith)))

pub shape_of-numbers : goal.shape_of-numbers
shape_of-numbers c = c.loop-i.invariant.1.0

pub returns : goal.returns
returns c =
    let l = c.loop-i in
    let a = c.args in
    copied-most a.values.now l.numbers (length a.numbers.now) l.i l.invariant.1.0 (omega arith) l.invariant.1.1

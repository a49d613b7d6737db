-- `arrays::fill::clear` meets its contract. Assumes nothing.
use mathlib.Core.Path.{refl, ◌∙◌}
use lib.ListN.{length, take, length-set}
use Rattle.arrays.proofs.Filling.{cleared-next, cleared}
use native.Mathlib.Omega.{arith}
use Rattle.arrays.proofs.fill.clear.Goals as goal

pub loop-i-init : goal.loop-i-init
loop-i-init c = (refl, refl)

pub loop-i-preserved : goal.loop-i-preserved
loop-i-preserved c =
    let l = c.loop-i in
    let a = c.args.numbers.now in
    (length-set l.numbers l.i 0 ∙ l.invariant.0, cleared-next (length a) l.numbers (take c.args.from a) l.i (omega arith) l.invariant.1)

pub shape_of-numbers : goal.shape_of-numbers
shape_of-numbers c = c.loop-i.invariant.0

pub returns : goal.returns
returns c =
    let l = c.loop-i in
    let a = c.args.numbers.now in
    cleared (length a) l.numbers (take c.args.from a) l.i l.invariant.0 (omega arith) l.invariant.1

-- `gcc_numbers::widen` meets its contract. Assumes nothing.
use mathlib.Core.Path.{refl, ap, ◌∙◌}
use lib.Seq.{sets, take_all}
use native.Mathlib.Omega.{arith}
use Rattle.gcc_numbers.proofs.Octets.{widened-next}
use Rattle.gcc_numbers.proofs.widen.Goals as goal

pub loop-i-init : goal.loop-i-init
loop-i-init c = (omega arith, (refl, refl))

pub overflow_cast-octets : goal.overflow_cast-octets
overflow_cast-octets c = omega (arith, c.type_inv.octets c.loop-i.i)

pub loop-i-preserved : goal.loop-i-preserved
loop-i-preserved c =
    let a = c.args in
    let l = c.loop-i in
    (omega arith, (c.put.auto.numbers ∙ l.invariant.1.0, c.put.ensures ∙ widened-next l.numbers a.numbers.now a.octets.now a.at l.i (omega arith) l.invariant.1.1))

pub shape_of-numbers : goal.shape_of-numbers
shape_of-numbers c = c.loop-i.invariant.1.0

pub returns : goal.returns
returns c =
    let a = c.args in
    let l = c.loop-i in
    l.invariant.1.1 ∙ ap (sets a.numbers.now a.at) (take_all l.i a.octets.now (omega arith))

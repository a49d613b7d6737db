-- `yard::setup::all_even` meets its contract. Assumes nothing.
use mathlib.Core.Path.{refl, sym, ◌∙◌}
use Rattle.yard.proofs.Starting.{even_odd, even_next, even_past}
use Rattle.yard.proofs.setup.all_even.Goals as goal

pub loop-key-init : goal.loop-key-init
loop-key-init c = refl

pub returns-then-key-ne0 : goal.returns-then-key-ne0
returns-then-key-ne0 c =
    let l = c.loop-key in
    sym (l.invariant ∙ even_odd _ l.key-index 0 c.loop-key-test.true c.if-key-ne0.true)

pub loop-key-preserved : goal.loop-key-preserved
loop-key-preserved c =
    let l = c.loop-key in
    l.invariant ∙ even_next _ l.key-index 0 c.loop-key-test.true c.if-key-ne0.false

pub returns : goal.returns
returns c =
    let l = c.loop-key in
    sym (l.invariant ∙ even_past _ l.key-index c.loop-key-test.false)

-- `yard::setup::setup` meets its contract. Assumes nothing.
use mathlib.Core.Path.{sym, ◌∙◌}
use borrow.Author.Tests.{not-true, not-false}
use Rattle.yard.proofs.Inside.{whole-inside}
use Rattle.yard.proofs.Starting.{yard-set_wrong, yard-set_odd, yard-set-not, yard-set}
use Rattle.yard.proofs.setup.setup.Goals as goal

pub returns-then-b-ne-LENGTH : goal.returns-then-b-ne-LENGTH
returns-then-b-ne-LENGTH c =
    let a = c.args in
    yard-set_wrong a.b.now a.s a.keys.now a.sets.now c.if-b-ne-LENGTH.true

pub returns-then-not-is_right : goal.returns-then-not-is_right
returns-then-not-is_right c =
    let a = c.args in
    yard-set_odd a.b.now a.s a.keys.now a.sets.now c.if-b-ne-LENGTH.false (sym c.is_right.ensures ∙ not-true _ c.if-not-is_right.true-raw)

pub slice_bounds-setup-end-2 : goal.slice_bounds-setup-end-2
slice_bounds-setup-end-2 c = sym (whole-inside c.args.b.now c.if-b-ne-LENGTH.false)

pub setup-n-requires : goal.setup-n-requires
setup-n-requires c = tt

pub returns-then-n-ne0 : goal.returns-then-n-ne0
returns-then-n-ne0 c =
    let a = c.args in
    let right = sym c.is_right.ensures ∙ not-false _ c.if-not-is_right.false-raw in
    yard-set-not a.b.now a.s a.keys.now a.sets.now c.if-b-ne-LENGTH.false right _ _ c.setup-n.ensures c.if-n-ne0.true

pub returns : goal.returns
returns c =
    let a = c.args in
    let right = sym c.is_right.ensures ∙ not-false _ c.if-not-is_right.false-raw in
    yard-set a.b.now a.s a.keys.now a.sets.now c.if-b-ne-LENGTH.false right _ _ c.setup-n.ensures c.if-n-ne0.false _ c.zero.ensures

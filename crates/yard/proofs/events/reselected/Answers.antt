-- `yard::events::reselected` meets its contract. Assumes nothing.
use mathlib.Core.Path.{refl, sym}
use mathlib.Core.Bool.{true}
use Rattle.receiver.specs.Step.{reselected}
use Rattle.yard.proofs.Inside.{whole-inside}
use Rattle.yard.proofs.Feeding.{wrong_length, long-then, yard-refused, yard-accepted}
use Rattle.yard.proofs.events.reselected.Goals as goal

pub returns-then-b-ne-LENGTH : goal.returns-then-b-ne-LENGTH
returns-then-b-ne-LENGTH c = let a = c.args in wrong_length a.b.now (reselected a.time) c.if-b-ne-LENGTH.true

pub slice_bounds-reselected-end-2 : goal.slice_bounds-reselected-end-2
slice_bounds-reselected-end-2 c = sym (whole-inside c.args.b.now c.if-b-ne-LENGTH.false)

pub reselected-n-requires : goal.reselected-n-requires
reselected-n-requires c = tt

pub returns-then-n-ne0 : goal.returns-then-n-ne0
returns-then-n-ne0 c =
    let a = c.args in
    yard-refused a.b.now (reselected a.time) c.if-b-ne-LENGTH.false refl _ _ c.reselected-n.ensures c.if-n-ne0.true

pub settle-requires : goal.settle-requires
settle-requires c =
    let a = c.args in
    long-then a.b.now (reselected a.time) c.if-b-ne-LENGTH.false refl _ _ c.reselected-n.ensures

pub returns : goal.returns
returns c =
    let a = c.args in
    yard-accepted a.b.now (reselected a.time) c.if-b-ne-LENGTH.false refl _ _ c.reselected-n.ensures c.if-n-ne0.false true refl _ c.settle.ensures

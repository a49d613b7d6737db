-- `yard::events::joined` meets its contract. Assumes nothing.
use mathlib.Core.Path.{refl, sym}
use mathlib.Core.Bool.{false}
use Rattle.receiver.specs.Step.{joined}
use Rattle.yard.proofs.Inside.{whole-inside}
use Rattle.yard.proofs.Feeding.{wrong_length, long-then, yard-refused, yard-accepted}
use Rattle.yard.proofs.events.joined.Goals as goal

pub returns-then-b-ne-LENGTH : goal.returns-then-b-ne-LENGTH
returns-then-b-ne-LENGTH c = let a = c.args in wrong_length a.b.now (joined a.time a.key) c.if-b-ne-LENGTH.true

pub slice_bounds-joined-end-2 : goal.slice_bounds-joined-end-2
slice_bounds-joined-end-2 c = sym (whole-inside c.args.b.now c.if-b-ne-LENGTH.false)

pub joined-n-requires : goal.joined-n-requires
joined-n-requires c = tt

pub returns-then-n-ne0 : goal.returns-then-n-ne0
returns-then-n-ne0 c =
    let a = c.args in
    yard-refused a.b.now (joined a.time a.key) c.if-b-ne-LENGTH.false refl _ _ c.joined-n.ensures c.if-n-ne0.true

pub settle_aged-requires : goal.settle_aged-requires
settle_aged-requires c =
    let a = c.args in
    long-then a.b.now (joined a.time a.key) c.if-b-ne-LENGTH.false refl _ _ c.joined-n.ensures

pub returns : goal.returns
returns c =
    let a = c.args in
    yard-accepted a.b.now (joined a.time a.key) c.if-b-ne-LENGTH.false refl _ _ c.joined-n.ensures c.if-n-ne0.false false refl _ c.settle_aged.ensures

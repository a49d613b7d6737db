-- `lent::events::bit_22` meets its contract. Assumes nothing.
use mathlib.Core.Path.{refl}
use Rattle.csn1.specs.Format.{ground}
use Rattle.receiver.specs.Count.{bits}
use Rattle.receiver.specs.Step.{nothing, plainly, bit22}
use Rattle.lent.proofs.Feeding.{fed-early, whole-then, fed-refused, fed-accepted, bit-out, bit_in, twelve}
use Rattle.lent.proofs.events.bit_22.Goals as goal

pub early-n-requires : goal.early-n-requires
early-n-requires c = tt

pub returns-then-n-ne0 : goal.returns-then-n-ne0
returns-then-n-ne0 c = let a = c.args in fed-early a.b.now (bit22 a.time a.value) _ c.early-n.ensures c.if-n-ne0.true

pub returns-then-value-gt1 : goal.returns-then-value-gt1
returns-then-value-gt1 c =
    let a = c.args in
    fed-refused a.b.now (bit22 a.time a.value) _ c.early-n.ensures c.if-n-ne0.false (ground 12) (bit-out a.value c.if-value-gt1.true) twelve.0 12 twelve.1

pub accept_bit-requires : goal.accept_bit-requires
accept_bit-requires c =
    let a = c.args in
    whole-then a.b.now (bit22 a.time a.value) _ c.early-n.ensures c.if-n-ne0.false

pub returns : goal.returns
returns c =
    let a = c.args in
    fed-accepted a.b.now (bit22 a.time a.value) _ c.early-n.ensures c.if-n-ne0.false _ _ _ (bit_in a.value c.if-value-gt1.false)
    (plainly nothing (bits a.value)) refl refl refl c.accept_bit.ensures

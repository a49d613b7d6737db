-- `lent::events::tick` meets its contract. Assumes nothing.
use mathlib.Core.Path.{refl}
use Rattle.receiver.specs.Count.{no_news}
use Rattle.receiver.specs.Step.{nothing, plainly, tick}
use Rattle.lent.proofs.Feeding.{fed-early, whole-then, fed-accepted}
use Rattle.lent.proofs.events.tick.Goals as goal

pub early-n-requires : goal.early-n-requires
early-n-requires c = tt

pub returns-then-n-ne0 : goal.returns-then-n-ne0
returns-then-n-ne0 c = let a = c.args in fed-early a.b.now (tick a.time) _ c.early-n.ensures c.if-n-ne0.true

pub accept_tick-requires : goal.accept_tick-requires
accept_tick-requires c =
    let a = c.args in
    whole-then a.b.now (tick a.time) _ c.early-n.ensures c.if-n-ne0.false

pub returns : goal.returns
returns c =
    let a = c.args in
    fed-accepted a.b.now (tick a.time) _ c.early-n.ensures c.if-n-ne0.false _ _ _ refl (plainly nothing no_news) refl refl refl c.accept_tick.ensures

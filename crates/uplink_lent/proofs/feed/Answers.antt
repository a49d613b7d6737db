-- `uplink_lent::feed` meets its contract. Assumes nothing.
use native.Mathlib.Omega.{arith}
use Rattle.uplink_lent.proofs.Calls.{event_strange, event-refused, event-accepted, free-stands}
use Rattle.uplink_lent.proofs.feed.Goals as goal

pub returns-then-b-ne-LENGTH : goal.returns-then-b-ne-LENGTH
returns-then-b-ne-LENGTH c = event_strange _ _ c.if-b-ne-LENGTH.true

pub returns-then-answer-ne0 : goal.returns-then-answer-ne0
returns-then-answer-ne0 c =
    let a = c.args in
    event-refused a.b.now (record { tick = a.time; signal = a.signal }) (omega arith) c.uplink_of-u.result c.happens-answer.result c.result-code.result c.uplink_of-u.ensures.0 c.happens-answer.ensures
    c.result-code.ensures c.if-answer-ne0.true

pub store-requires : goal.store-requires
store-requires c =
    let a = c.args in (
      omega (arith, c.if-b-ne-LENGTH.false),
      λ t. free-stands a.b.now (record { tick = a.time; signal = a.signal }) c.uplink_of-u.result c.happens-answer.result c.happens-answer.ensures c.uplink_of-u.ensures.1
          c.free_stays.result c.free_stays.ensures t,
    )

pub returns : goal.returns
returns c =
    let a = c.args in
    event-accepted a.b.now (record { tick = a.time; signal = a.signal }) (omega (
      arith,
      c.if-b-ne-LENGTH.false,
    )) c.uplink_of-u.result c.happens-answer.result c.result-code.result c.uplink_of-u.ensures.0 c.happens-answer.ensures
    c.result-code.ensures c.if-answer-ne0.false c.store.new.b c.store.ensures

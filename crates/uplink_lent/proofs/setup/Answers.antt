-- `uplink_lent::setup` meets its contract. Assumes nothing.
use native.Mathlib.Omega.{arith}
use Rattle.uplink_lent.proofs.Standing.{not_so}
use Rattle.uplink_lent.proofs.Calls.{setup_strange, setup_refused, setup_accepted}
use Rattle.uplink_lent.proofs.setup.Goals as goal

pub returns-then-b-ne-LENGTH : goal.returns-then-b-ne-LENGTH
returns-then-b-ne-LENGTH c = setup_strange _ _ c.if-b-ne-LENGTH.true

pub returns-then-started-ne0 : goal.returns-then-started-ne0
returns-then-started-ne0 c =
    let a = c.args in
    setup_refused a.b.now a.s (omega arith) c.start-started.result c.start-started.ensures c.if-started-ne0.true

pub store-requires : goal.store-requires
store-requires c = (omega arith, λ t. absurd (not_so t))

pub returns : goal.returns
returns c =
    let a = c.args in
    setup_accepted a.b.now a.s (omega arith) c.start-started.result
    c.start-started.ensures (omega arith) c.store.new.b c.store.ensures

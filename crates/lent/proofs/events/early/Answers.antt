-- `lent::events::early` meets its contract. Assumes nothing.
use mathlib.Core.Bool.{true, false}
use Rattle.lent.proofs.Feeding.{early_wrong, early-right}
use Rattle.lent.proofs.events.early.Goals as goal

pub returns-then-b-ne-LENGTH : goal.returns-then-b-ne-LENGTH
returns-then-b-ne-LENGTH c = early_wrong c.args.b.now c.args.time c.if-b-ne-LENGTH.true

pub tick_of-requires : goal.tick_of-requires
tick_of-requires c = tt

pub is_late-requires : goal.is_late-requires
is_late-requires c = tt

pub returns-then-is_late : goal.returns-then-is_late
returns-then-is_late c =
    let a = c.args in
    early-right a.b.now a.time _ _ true c.if-b-ne-LENGTH.false c.tick_of.ensures c.is_late.ensures c.if-is_late.true

pub returns : goal.returns
returns c =
    let a = c.args in
    early-right a.b.now a.time _ _ false c.if-b-ne-LENGTH.false c.tick_of.ensures c.is_late.ensures c.if-is_late.false

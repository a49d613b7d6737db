-- `trace::message::call_or_paging` meets its contract. Assumes nothing.
use Rattle.trace.proofs.Tracing.{traced_left, traced_right}
use Rattle.trace.proofs.message.call_or_paging.Goals as goal

pub returns-then-b-eq0 : goal.returns-then-b-eq0
returns-then-b-eq0 c =
    traced_left c.requires c.note-b.ensures c.if-b-eq0.true c.call.ensures

pub returns : goal.returns
returns c =
    traced_right c.requires c.note-b.ensures c.if-b-eq0.false c.paging.ensures

-- `trace::calls::description` meets its contract. Assumes nothing.
use Rattle.trace.proofs.Tracing.{if_one_not, if_one}
use Rattle.trace.proofs.calls.description.Goals as goal

pub returns-then-c-ne1 : goal.returns-then-c-ne1
returns-then-c-ne1 c =
    if_one_not c.requires c.channel-c.ensures c.if-c-ne1.true

pub returns : goal.returns
returns c =
    if_one c.requires c.channel-c.ensures c.if-c-ne1.false c.frequencies.ensures

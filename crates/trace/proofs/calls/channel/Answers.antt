-- `trace::calls::channel` meets its contract. Assumes nothing.
use Rattle.trace.proofs.Channels.{channel_wrong, channel-right}
use Rattle.trace.proofs.calls.channel.Goals as goal

pub returns-then-c-flag : goal.returns-then-c-flag
returns-then-c-flag c =
    channel_wrong c.requires c.note-c.ensures c.note-h.ensures c.if-c-flag.true c.stop-end.ensures

pub returns : goal.returns
returns c =
    channel-right c.requires c.note-c.ensures c.note-h.ensures c.if-c-flag.false

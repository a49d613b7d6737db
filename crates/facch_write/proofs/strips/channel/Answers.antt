-- `facch_write::strips::channel` meets its contract. Assumes nothing.
use Rattle.facch_write.proofs.Widths.{priority_beside, channel-said}
use native.Mathlib.Omega.{arith}
use Rattle.facch_write.proofs.strips.channel.Goals as goal

pub flagged-requires : goal.flagged-requires
flagged-requires c = (omega arith, c.requires.1)

pub beside-requires : goal.beside-requires
beside-requires c = priority_beside c.args.p c.requires.0 c.requires.1 c.flagged.result c.flagged.ensures

pub returns : goal.returns
returns c =
    channel-said c.args.p c.requires.0 c.requires.1 c.flagged.result c.flagged.ensures c.beside.result c.beside.ensures

-- `layout::setup::is_set_up` meets its contract. Assumes nothing.
use Rattle.layout.proofs.Setting.{mark_wrong, mark_right}
use Rattle.layout.proofs.setup.is_set_up.Goals as goal

pub returns-then-b-ne-LENGTH : goal.returns-then-b-ne-LENGTH
returns-then-b-ne-LENGTH c = mark_wrong c.args.b.now c.if-b-ne-LENGTH.true

pub returns : goal.returns
returns c = mark_right c.args.b.now c.if-b-ne-LENGTH.false _ c.u32_at.ensures

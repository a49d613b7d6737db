-- `receiver::Setup::start` meets its contract. Assumes nothing.
use mathlib.Core.Path.{sym, ◌∙◌}
use Rattle.receiver.proofs.Keys.{right_keys, right_sets}
use Rattle.receiver.proofs.Setup.start.Goals as goal

pub placed-requires : goal.placed-requires
placed-requires c = (right_keys c.args.self c.args.keys.now c.args.sets.now (sym c.is_right.ensures ∙ c.if-not-is_right.false)).0

pub placed-requires-2 : goal.placed-requires-2
placed-requires-2 c = right_sets c.args.self c.args.keys.now c.args.sets.now (sym c.is_right.ensures ∙ c.if-not-is_right.false)

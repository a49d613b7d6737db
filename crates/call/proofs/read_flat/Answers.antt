-- `call::read_flat` meets its contract. Assumes nothing.
use mathlib.Core.Path.{ap, ◌∙◌}
use Rattle.call.specs.Inner.{gathered}
use Rattle.call.proofs.read_flat.Goals as goal

pub fixed-requires : goal.fixed-requires
fixed-requires c = c.read_quick-q.ensures.small

pub returns-then-q : goal.returns-then-q
returns-then-q c = ap gathered c.fixed.ensures ∙ c.read_quick-q.ensures.right c.if-q.true

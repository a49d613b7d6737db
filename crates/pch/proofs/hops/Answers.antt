-- `pch::hops` meets its contract. Assumes nothing.
use mathlib.Core.Path.{sym, ◌∙◌}
use Rattle.pch.proofs.hops.Goals as goal

pub returns-then-is_set : goal.returns-then-is_set
returns-then-is_set c = rw (sym c.is_set.ensures ∙ c.if-is_set.true) c.is_set-then-is_set.ensures

pub returns : goal.returns
returns c = rw (sym c.is_set.ensures ∙ c.if-is_set.false)

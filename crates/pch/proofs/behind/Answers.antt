-- `pch::behind` meets its contract. Assumes nothing.
use mathlib.Core.Path.{sym, ◌∙◌}
use Rattle.pch.proofs.behind.Goals as goal

pub returns-then-is_set : goal.returns-then-is_set
returns-then-is_set c = rw (sym c.is_set.ensures ∙ c.if-is_set.true) c.number_at.ensures

pub returns : goal.returns
returns c = rw (sym c.is_set.ensures ∙ c.if-is_set.false)

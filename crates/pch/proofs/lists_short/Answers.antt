-- `pch::lists_short` meets its contract. Assumes nothing.
use mathlib.Core.Path.{sym, ◌∙◌}
use Rattle.pch.proofs.lists_short.Goals as goal

pub returns-then-hops : goal.returns-then-hops
returns-then-hops c = rw (sym c.hops.ensures ∙ c.if-hops.true) c.is_set.ensures

pub returns : goal.returns
returns c = rw (sym c.hops.ensures ∙ c.if-hops.false)

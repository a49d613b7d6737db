-- `pch::frequencies_in` meets its contract. Assumes nothing.
use mathlib.Core.Path.{sym, ◌∙◌}
use Rattle.pch.proofs.frequencies_in.Goals as goal

pub returns-then-hops : goal.returns-then-hops
returns-then-hops c = rw (sym c.hops.ensures ∙ c.if-hops.true) c.number_at.ensures

pub returns : goal.returns
returns c = rw (sym c.hops.ensures ∙ c.if-hops.false)

-- `pch::length_in` meets its contract. Assumes nothing.
use mathlib.Core.Path.{sym, ◌∙◌}
use Rattle.pch.proofs.length_in.Goals as goal

pub returns-then-allocates : goal.returns-then-allocates
returns-then-allocates c = rw (sym c.allocates.ensures ∙ c.if-allocates.true) c.number_at.ensures

pub returns : goal.returns
returns c = rw (sym c.allocates.ensures ∙ c.if-allocates.false)

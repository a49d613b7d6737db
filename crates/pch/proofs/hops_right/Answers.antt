-- `pch::hops_right` meets its contract. Assumes nothing.
use mathlib.Core.Path.{sym, ◌∙◌}
use Rattle.pch.specs.Entry.{hops_right}
use Rattle.pch.proofs.hops_right.Goals as goal

pub returns-then-is_set-2 : goal.returns-then-is_set-2
unfolding hops_right
returns-then-is_set-2 c = rw (
  sym c.is_set.ensures ∙ c.if-is_set.true,
  sym c.is_set-then-is_set.ensures ∙ c.if-is_set-2.true,
  c.number_at.ensures,
)

pub returns-then-is_set : goal.returns-then-is_set
unfolding hops_right
returns-then-is_set c = rw (
  sym c.is_set.ensures ∙ c.if-is_set.true,
  sym c.is_set-then-is_set.ensures ∙ c.if-is_set-2.false,
  c.number_at.ensures,
)

pub returns : goal.returns
unfolding hops_right
returns c = rw (sym c.is_set.ensures ∙ c.if-is_set.false)

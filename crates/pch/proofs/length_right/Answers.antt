-- `pch::length_right` meets its contract. Assumes nothing.
use mathlib.Core.Path.{sym, ◌∙◌}
use borrow.Author.Tests.{lt-leb, le-leb}
use Rattle.pch.specs.Entry.{length_right}
use Rattle.pch.proofs.length_right.Goals as goal

pub returns-then-n-lt1 : goal.returns-then-n-lt1
unfolding length_right
returns-then-n-lt1 c = rw (
  sym c.allocates.ensures ∙ c.if-allocates.true,
  sym c.number_at-n.ensures,
  lt-leb 1
      c.number_at-n.result c.if-n-lt1.true,
)

pub returns-then-allocates : goal.returns-then-allocates
unfolding length_right
returns-then-allocates c = rw (
  sym c.allocates.ensures ∙ c.if-allocates.true,
  sym c.number_at-n.ensures,
  le-leb 1
      c.number_at-n.result c.if-n-lt1.false,
)

pub returns : goal.returns
unfolding length_right
returns c = rw (sym c.allocates.ensures ∙ c.if-allocates.false)

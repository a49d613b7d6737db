-- `call::writer::is_right` meets its contract. Assumes nothing.
use mathlib.Core.Path.{sym, ◌∙◌}
use borrow.Author.Tests.{not-true, not-false}
use Rattle.call.proofs.writer.is_right.Goals as goal

pub returns-then-not-in_range : goal.returns-then-not-in_range
returns-then-not-in_range c = rw (sym c.in_range.ensures ∙ not-true c.in_range.result c.if-not-in_range.true-raw)

pub returns-then-not-is_low : goal.returns-then-not-is_low
returns-then-not-is_low c = rw (sym c.in_range.ensures ∙ not-false c.in_range.result c.if-not-in_range.false-raw, sym c.is_low.ensures ∙ not-true c.is_low.result c.if-not-is_low.true-raw)

pub returns-then-not-length_right : goal.returns-then-not-length_right
returns-then-not-length_right c =
    rw (
      sym c.in_range.ensures ∙ not-false c.in_range.result c.if-not-in_range.false-raw,
      sym c.is_low.ensures
          ∙ not-false c.is_low.result c.if-not-is_low.false-raw,
      sym c.length_right.ensures ∙ not-true c.length_right.result c.if-not-length_right.true-raw,
    )

pub returns : goal.returns
returns c = rw (
  sym c.in_range.ensures ∙ not-false c.in_range.result c.if-not-in_range.false-raw,
  sym c.is_low.ensures
      ∙ not-false c.is_low.result c.if-not-is_low.false-raw,
  sym c.length_right.ensures ∙ not-false c.length_right.result c.if-not-length_right.false-raw,
) c.hops_right.ensures

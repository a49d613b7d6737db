-- `trace::calls::low` meets its contract. Assumes nothing.
use mathlib.Core.Path.{sym, ◌∙◌}
use Rattle.trace.proofs.Rows.{low-short, low-high, low-fine}
use Rattle.trace.proofs.calls.low.Goals as goal

pub returns-in_default : goal.returns-in_default
returns-in_default c = low-short _ _ _ (sym c.in_default.is ∙ c.fetch.ensures)

pub returns-then-value-gt99999999 : goal.returns-then-value-gt99999999
returns-then-value-gt99999999 c =
    low-high _ _ _ (sym c.in-Bits.is ∙ c.fetch.ensures) c.if-value-gt99999999.true c.stop.ensures

pub returns : goal.returns
returns c =
    low-fine _ _ _ (sym c.in-Bits.is ∙ c.fetch.ensures) c.if-value-gt99999999.false

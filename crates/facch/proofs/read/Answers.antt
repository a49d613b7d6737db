-- `facch::read` meets its contract. Assumes nothing.
use mathlib.Core.Path.{ap₂, ◌∙◌}
use Rattle.facch.proofs.Taken.{whole_reading}
use Rattle.facch.proofs.read.Goals as goal

pub returns-then-q : goal.returns-then-q
returns-then-q c =
    ap₂ (whole_reading c.message-q.result) c.no_refusal.ensures c.no_page.ensures ∙ c.message-q.ensures c.if-q.true

pub returns : goal.returns
returns c =
    c.read_asking.ensures

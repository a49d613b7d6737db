-- `views::pages::paged` meets its contract. Assumes nothing.
use mathlib.Core.Path.{ap, ◌∙◌}
use lib.ListN.{length}
use Rattle.layout.specs.Parts.{paged_numbers}
use Rattle.layout.proofs.States.{at-state}
use Rattle.views.proofs.Lines.{left-none, left-all}
use Rattle.views.proofs.pages.paged.Goals as goal

pub returns-then-b-ne-LENGTH : goal.returns-then-b-ne-LENGTH
returns-then-b-ne-LENGTH c =
    let a = c.args in
    left-none a.b.now (length a.numbers.now) _ _ c.if-b-ne-LENGTH.true c.clear.ensures

pub returns : goal.returns
returns c =
    let a = c.args in
    let b = a.b.now in
    left-all b (length a.numbers.now) _ _ c.if-b-ne-LENGTH.false _
    (c.paged_numbers-all.ensures ∙ ap paged_numbers (c.paged_of.ensures ∙ at-state b _ _ c.if-b-ne-LENGTH.false))
    c.store.ensures

-- `views::entries::entry` meets its contract. Assumes nothing.
use mathlib.Core.Path.{◌∙◌}
use lib.ListN.{length}
use Rattle.layout.proofs.States.{at-state}
use Rattle.views.proofs.Lines.{told-all, left-none, left-all}
use Rattle.views.proofs.entries.entry.Goals as goal

pub returns-then-b-ne-LENGTH : goal.returns-then-b-ne-LENGTH
returns-then-b-ne-LENGTH c =
    let a = c.args in
    left-none a.b.now (length a.numbers.now) _ _ c.if-b-ne-LENGTH.true c.clear.ensures

pub returns : goal.returns
returns c =
    let a = c.args in
    let b = a.b.now in
    let whole = c.if-b-ne-LENGTH.false in
    left-all b (length a.numbers.now) _ _ whole _
    (told-all b a.entry _ _ _ _ _ _ (c.part_of-key.ensures ∙ at-state b _ _ whole) (c.part_of-number.ensures ∙ at-state b _ _ whole)
    (c.record_of-record.ensures ∙ at-state b _ _ whole) (c.part_of-follow.ensures ∙ at-state b _ _ whole) (c.part_of-kept.ensures ∙ at-state b _ _ whole)
    c.told_numbers-all.ensures)
    c.store.ensures

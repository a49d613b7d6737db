-- `layout::parts::number_from` meets its contract. Assumes nothing.
use mathlib.Core.Path.{◌∙◌}
use Rattle.layout.proofs.Reading.{told-first, told-second, told-last, told-middle}
use Rattle.layout.proofs.parts.number_from.Goals as goal

pub returns-then-part-eq0 : goal.returns-then-part-eq0
returns-then-part-eq0 c = let a = c.args in c.u64_at.ensures ∙ told-first a.b.now a.at a.part c.if-part-eq0.true

pub returns-then-part-eq1 : goal.returns-then-part-eq1
returns-then-part-eq1 c =
    let a = c.args in
    c.from.ensures ∙ told-second a.b.now a.at a.part c.if-part-eq1.true

pub returns-then-part-ge-BESIDE : goal.returns-then-part-ge-BESIDE
returns-then-part-ge-BESIDE c =
    let a = c.args in
    c.beside.ensures ∙ told-last a.b.now a.at a.part c.if-part-ge-BESIDE.true

pub returns : goal.returns
returns c =
    let a = c.args in
    c.record_part.ensures ∙ told-middle a.b.now a.at a.part c.if-part-eq0.false c.if-part-eq1.false c.if-part-ge-BESIDE.false

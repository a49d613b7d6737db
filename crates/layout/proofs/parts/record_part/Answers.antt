-- `layout::parts::record_part` meets its contract. Assumes nothing.
use mathlib.Core.Path.{ap, ◌∙◌}
use mathlib.Core.Bool.{Bool}
use Rattle.csn1.specs.Told.{as_bit}
use Rattle.layout.proofs.Reading.{part-four, part-eight, part-flag, part_small, part_none}
use Rattle.layout.proofs.parts.record_part.Goals as goal

pub returns-then-part-lt2 : goal.returns-then-part-lt2
returns-then-part-lt2 c = let a = c.args in c.from.ensures ∙ c.u32_at.ensures ∙ part-four a.b.now a.at a.part c.if-part-lt2.true

pub returns-then-part-lt4 : goal.returns-then-part-lt4
returns-then-part-lt4 c = let a = c.args in c.u64_at.ensures ∙ part-eight a.b.now a.at a.part c.if-part-lt2.false c.if-part-lt4.true

pub returns-then-part-lt24 : goal.returns-then-part-lt24
returns-then-part-lt24 c =
    let a = c.args in
    c.from-then-part-lt24.ensures ∙ ap (λ (x : Bool). as_bit x) c.flag_at.ensures ∙ part-flag a.b.now a.at a.part c.if-part-lt4.false c.if-part-lt24.true

pub returns-then-part-lt30 : goal.returns-then-part-lt30
returns-then-part-lt30 c =
    let a = c.args in
    c.from-then-part-lt30.ensures ∙ part_small a.b.now a.at a.part c.if-part-lt24.false c.if-part-lt30.true

pub returns : goal.returns
returns c = let a = c.args in part_none a.b.now a.at a.part c.if-part-lt30.false

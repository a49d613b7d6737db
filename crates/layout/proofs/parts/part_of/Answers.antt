-- `layout::parts::part_of` meets its contract. Assumes nothing.
use mathlib.Core.Path.{sym, ◌∙◌}
use native.Mathlib.Omega.{arith}
use Rattle.layout.proofs.States.{at-state, no_state}
use Rattle.layout.proofs.Reading.{last-three, last-beyond, last-unused, last-told, last-paged}
use Rattle.layout.proofs.parts.part_of.Goals as goal

pub returns-then-b-ne-LENGTH : goal.returns-then-b-ne-LENGTH
returns-then-b-ne-LENGTH c = sym (no_state c.args.b.now _ _ c.if-b-ne-LENGTH.true)

pub returns-then-part-lt3 : goal.returns-then-part-lt3
returns-then-part-lt3 c =
    let a = c.args in
    c.from.ensures ∙ c.u32_at.ensures ∙ last-three a.b.now a.entry a.part c.if-part-lt3.true
    ∙ sym (at-state a.b.now _ _ c.if-b-ne-LENGTH.false)

pub returns-then-part-ge-PAGED_PART : goal.returns-then-part-ge-PAGED_PART
returns-then-part-ge-PAGED_PART c =
    let a = c.args in
    c.paged_part.ensures ∙ last-paged a.b.now a.entry a.part c.if-part-ge-PAGED_PART.true ∙ sym (at-state a.b.now _ _ c.if-b-ne-LENGTH.false)

pub returns-then-entry-ge-MOST_ENTRIES : goal.returns-then-entry-ge-MOST_ENTRIES
returns-then-entry-ge-MOST_ENTRIES c =
    let a = c.args in
    last-beyond a.b.now a.entry a.part c.if-part-lt3.false c.if-part-ge-PAGED_PART.false c.if-entry-ge-MOST_ENTRIES.true ∙ sym (at-state a.b.now _ _ c.if-b-ne-LENGTH.false)

pub returns-then-u32_at-entry : goal.returns-then-u32_at-entry
returns-then-u32_at-entry c =
    let a = c.args in
    last-unused a.b.now a.entry a.part c.if-part-lt3.false c.if-part-ge-PAGED_PART.false (omega (arith, c.if-entry-ge-MOST_ENTRIES.false)) (omega (arith, c.if-u32_at-entry.true, c.u32_at-2.ensures))
    ∙ sym (at-state a.b.now _ _ c.if-b-ne-LENGTH.false)

pub returns : goal.returns
returns c =
    let a = c.args in
    c.entry_part.ensures
    ∙ last-told a.b.now a.entry a.part c.if-part-lt3.false c.if-part-ge-PAGED_PART.false (omega (arith, c.if-entry-ge-MOST_ENTRIES.false))
    (omega (arith, c.if-u32_at-entry.false, c.u32_at-2.ensures))
    ∙ sym (at-state a.b.now _ _ c.if-b-ne-LENGTH.false)

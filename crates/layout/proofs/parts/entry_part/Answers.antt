-- `layout::parts::entry_part` meets its contract. Assumes nothing.
use mathlib.Core.Path.{sym, ap, ◌∙◌}
use native.Mathlib.Omega.{arith}
use lib.Dec.{leb, ltb}
use lib.ListN.{get_or}
use borrow.Author.Tests.{leb-true, ltb-true}
use Rattle.bits.proofs.Answers.{both_true}
use Rattle.receiver.specs.declared.Told.{Told}
use Rattle.layout.specs.Layout.{carries}
use Rattle.layout.specs.Parts.{told_numbers}
use Rattle.layout.proofs.Reading.{told-bare, told-carried, told-outside}
use Rattle.layout.proofs.parts.entry_part.Goals as goal
use Rattle.layout.proofs.parts.entry_part.Goals.{else-is_of_record-via-then-is_of_record+else-not-carries, else-is_of_record-via-else-is_of_record}

pub returns-then-not-carries : goal.returns-then-not-carries
returns-then-not-carries c =
    let a = c.args in
    let p = both_true (leb 2 a.part) (ltb a.part 32) (sym c.is_of_record.ensures ∙ c.if-is_of_record.true) in
    let low = leb-true 2 a.part p.0 in
    told-bare a.b.now a.entry a.part (omega (arith, low)) (omega (arith, low)) (ltb-true a.part 32 p.1)
    (ap carries (sym c.from.ensures) ∙ sym c.carries.ensures ∙ c.if-not-carries.true)

pub returns : goal.returns
returns c =
    let a = c.args in
    c.number_from.ensures
    ∙ elim c.else-is_of_record.branch [
      | else-is_of_record-via-then-is_of_record+else-not-carries w ↦ ap (λ (t : Told). get_or (told_numbers t) a.part 0)
          (sym (told-carried a.b.now a.entry (ap carries (sym w.from.ensures) ∙ sym w.carries.ensures ∙ w.if-not-carries.false)))
      | else-is_of_record-via-else-is_of_record w ↦ told-outside a.b.now a.entry a.part (sym c.is_of_record.ensures ∙ w.if-is_of_record.false)
    ]

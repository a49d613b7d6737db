-- `capture::lines::put_answer` meets its contract. Assumes nothing.
use Rattle.std.proofs.Common.{◌+◌, ap, ◌∙◌, arith}
use Rattle.layout.specs.Layout.{last_of}
use Rattle.text.specs.Lines.{added}
use Rattle.text.proofs.Lines.{line}
use Rattle.capture.specs.Replay.{field_text, entries_text}
use Rattle.capture.proofs.Texts.{placed, then-added, length-field}
use Rattle.capture.proofs.Telling.{expired-is, dropped-is, lost-below, entries_of, entries-most, refused-text, accepted-text}
use Rattle.capture.proofs.lines.put_answer.Goals as goal

pub returns-then-refusal-ne0 : goal.returns-then-refusal-ne0
returns-then-refusal-ne0 c =
    let a = c.args in
    c.put_field.ensures ∙ ap (λ s. added s (line a.out.now a.at)) (refused-text a.number a.tag a.refusal (last_of a.state.now) c.if-refusal-ne0.true)

pub overflow_add-dropped : goal.overflow_add-dropped
overflow_add-dropped c =
    let s = c.args.state.now in
    let b = lost-below s (λ j. omega (arith, c.type_inv.state j)) in
    let e = expired-is s c.requires.1 c.part_of.result c.part_of.ensures in
    let d = dropped-is s c.requires.1 c.part_of-2.result c.part_of-2.ensures in
    omega (arith, b)

pub put_entries-requires : goal.put_entries-requires
put_entries-requires c =
    let a = c.args in
    let w = length-field a.number a.tag a.refusal (c.part_of.result + c.part_of-2.result) in
    let p = placed _ a.out.now _ a.at _ (omega (arith, c.requires.0)) c.put_field-at.ensures in
    (omega (arith, c.requires.0), c.requires.1)

pub returns : goal.returns
returns c =
    let a = c.args in
    let s = a.state.now in
    let n = c.part_of.result + c.part_of-2.result in
    let w = length-field a.number a.tag a.refusal n in
    let e = expired-is s c.requires.1 c.part_of.result c.part_of.ensures in
    let d = dropped-is s c.requires.1 c.part_of-2.result c.part_of-2.ensures in
    let t = accepted-text a.number a.tag a.refusal n (last_of s) c.if-refusal-ne0.false (omega (arith, e, d)) in
    then-added (field_text a.number a.tag a.refusal n) (entries_text (entries_of (last_of s))) a.out.now a.at _ _
    (omega (arith, c.requires.0, entries-most s)) c.put_field-at.ensures c.put_entries.ensures
    ∙ ap (λ x. added x (line a.out.now a.at)) t

-- `capture::lines::put_entries` meets its contract. Assumes nothing.
use Rattle.std.proofs.Common.{ap, ◌∙◌, arith}
use Rattle.text.specs.Lines.{added}
use Rattle.text.proofs.Lines.{line}
use Rattle.capture.specs.Replay.{entries_text}
use Rattle.capture.proofs.Texts.{placed}
use Rattle.capture.proofs.Telling.{count-is, key-is, number_is, entries_none, entries-low, entries-end, entries_next}
use Rattle.capture.proofs.lines.put_entries.Goals as goal

pub loop-j-init : goal.loop-j-init
loop-j-init c =
    let a = c.args in
    entries_none a.state.now a.out.now a.at (omega (arith, c.requires.0))

pub put_entry-at-requires : goal.put_entry-at-requires
put_entry-at-requires c =
    let a = c.args in
    let l = c.loop-j in
    let w = entries-low a.state.now l.j in
    let p = placed _ a.out.now l.out a.at l.at (omega (arith, c.requires.0)) l.invariant in
    omega (arith, c.requires.0)

pub loop-j-preserved : goal.loop-j-preserved
loop-j-preserved c =
    let a = c.args in
    let l = c.loop-j in
    let s = a.state.now in
    let g = count-is s c.requires.1 c.part_of-count.result c.part_of-count.ensures in
    let k = key-is s c.requires.1 l.j c.part_of.result c.part_of.ensures in
    let n = number_is s c.requires.1 l.j c.part_of-in-loop-j.result c.part_of-in-loop-j.ensures in
    entries_next s l.j c.part_of.result c.part_of-in-loop-j.result (omega arith) (omega arith) k n a.out.now a.at _ _ c.requires.0 l.invariant c.put_entry-at.ensures

pub returns : goal.returns
returns c =
    let a = c.args in
    let l = c.loop-j in
    let g = count-is a.state.now c.requires.1 c.part_of-count.result c.part_of-count.ensures in
    l.invariant ∙ ap (λ e. added (entries_text e) (line a.out.now a.at)) (entries-end a.state.now l.j (omega arith))

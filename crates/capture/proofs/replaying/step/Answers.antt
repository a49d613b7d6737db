-- `capture::replaying::step` meets its contract. Assumes nothing.
use Rattle.std.proofs.Common.{◌∙◌, arith}
use borrow.Author.Tests.{not-true, not-false}
use Rattle.capture.proofs.Stepping.{kept-part, step-more, step-whole}
use Rattle.capture.proofs.Stepping.{whole-head, kept-length}
use Rattle.capture.proofs.replaying.step.Goals as goal

pub returns-then-not-g : goal.returns-then-not-g
returns-then-not-g c =
    let a = c.args in
    let p = c.requires in
    step-more a.r a.kept.now a.state.now a.piece.now a.out.now a.at p.1.1.1.0 p.1.1.0 p.1.1.1.1 _ _ _ _ c.gather-g.ensures (not-true _ c.if-not-g.true)

pub slice_bounds-answer-count : goal.slice_bounds-answer-count
slice_bounds-answer-count c =
    let a = c.args in
    let h = whole-head a.kept.now a.piece.now _ a.r.got _ _ _ c.gather-g.ensures (not-false _ c.if-not-g.false) in
    omega (arith, c.end_of-last.ensures)

pub slice_bounds-answer-start : goal.slice_bounds-answer-start
slice_bounds-answer-start c =
    let a = c.args in
    let h = whole-head a.kept.now a.piece.now _ a.r.got _ _ _ c.gather-g.ensures (not-false _ c.if-not-g.false) in
    omega (arith, c.end_of-last.ensures)

pub returns : goal.returns
returns c =
    let a = c.args in
    let p = c.requires in
    let g = c.gather-g.ensures in
    let w = not-false _ c.if-not-g.false in
    let h = whole-head a.kept.now a.piece.now _ a.r.got _ _ _ g w in
    let k = kept-length a.kept.now a.piece.now _ a.r.got _ _ _ g ∙ p.0 in
    let s = rw (kept-part _ _ _ k c.end_of-last.ensures h) at c.answer-a.ensures in
    step-whole a.r a.kept.now a.state.now a.piece.now a.out.now a.at p.1.1.1.0 p.1.1.0 p.1.1.1.1 _ _ _ _ g _ _ s w _ _ _
    c.wrapping_add_u64.ensures.value c.put_answer-end.ensures

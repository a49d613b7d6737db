-- `capture::mending::step` meets its contract. Assumes nothing.
use Rattle.std.proofs.Common.{◌+◌, leb, length, sym, ◌∙◌, arith, length-take-le, leb-true}
use borrow.Author.Tests.{not-true, not-false}
use Rattle.capture.specs.Mending.{most_copied, most_listed}
use Rattle.capture.proofs.Gathered.{first_of}
use Rattle.capture.proofs.Stepping.{kept-part, whole-head, kept-length}
use Rattle.capture.proofs.Mendings.{second-of, kept-take, mend_more, mend_whole}
use Rattle.capture.proofs.mending.step.Goals as goal

pub returns-then-not-g : goal.returns-then-not-g
returns-then-not-g c =
    let a = c.args in
    let p = c.requires in
    mend_more a.m a.kept.now a.state.now a.piece.now a.copy.now a.copied a.list.now a.listed p.1.1.1.0 p.1.1.0 p.1.1.1.1 _ _ _ _
    c.gather-g.ensures (not-true _ c.if-not-g.true)

pub slice_bounds-answer-count : goal.slice_bounds-answer-count
slice_bounds-answer-count c =
    let a = c.args in
    let h = whole-head a.kept.now a.piece.now _ a.m.replay.got _ _ _ c.gather-g.ensures (not-false _ c.if-not-g.false) in
    omega (arith, c.end_of-last.ensures)

pub slice_bounds-answer-start : goal.slice_bounds-answer-start
slice_bounds-answer-start c =
    let a = c.args in
    let h = whole-head a.kept.now a.piece.now _ a.m.replay.got _ _ _ c.gather-g.ensures (not-false _ c.if-not-g.false) in
    omega (arith, c.end_of-last.ensures)

pub slice_bounds-put_part-end-2 : goal.slice_bounds-put_part-end-2
slice_bounds-put_part-end-2 c =
    let a = c.args in
    let k = kept-length a.kept.now a.piece.now _ a.m.replay.got _ _ _ c.gather-g.ensures ∙ c.requires.0 in
    sym (length-take-le _ _ (omega (arith, c.end_of-last.ensures, k)))

pub put_part-e-requires : goal.put_part-e-requires
put_part-e-requires c =
    let a = c.args in
    let copies = leb (a.copied + most_copied) (length a.copy.now) in
    let lists = leb (a.listed + most_listed) (length a.list.now) in
    let kept = kept-length a.kept.now a.piece.now _ a.m.replay.got _ _ _ c.gather-g.ensures ∙ c.requires.0 in
    let room = leb-true (a.copied + most_copied) (length a.copy.now) (first_of copies lists c.requires.1.1.0) in
    let taken = length-take-le c.end_of-last.result c.gather-g.new.kept (omega (arith, c.end_of-last.ensures, kept)) in
    (omega (arith, c.end_of-last.ensures, taken), leb-true (a.listed + most_listed) (length a.list.now) (second-of copies lists c.requires.1.1.0))

pub returns : goal.returns
returns c =
    let a = c.args in
    let p = c.requires in
    let g = c.gather-g.ensures in
    let w = not-false _ c.if-not-g.false in
    let h = whole-head a.kept.now a.piece.now _ a.m.replay.got _ _ _ g w in
    let k = kept-length a.kept.now a.piece.now _ a.m.replay.got _ _ _ g ∙ p.0 in
    let s = rw (kept-part _ _ _ k c.end_of-last.ensures h) at c.answer-a.ensures in
    mend_whole a.m a.kept.now a.state.now a.piece.now a.copy.now a.copied a.list.now a.listed p.1.1.1.0 p.1.1.0 p.1.1.1.1 _ _ _ _ g _ _ s w
    _ _ _ _ _ _ _ c.wrapping_add_u64.ensures.value c.further.ensures (kept-take _ _ _ k c.end_of-last.ensures) c.put_part-e.ensures

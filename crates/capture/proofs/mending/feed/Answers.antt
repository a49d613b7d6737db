-- `capture::mending::feed` meets its contract. Assumes nothing.
use Rattle.std.proofs.Common.{sym, ◌∙◌, arith, length-drop, length-take}
use borrow.Author.Tests.{not-true, not-false}
use Rattle.capture.proofs.Answering.{part-all}
use Rattle.capture.proofs.Mendings.{mend_not_kept, mend_not_lent, mend_first, mend_all, mend_full, mend_over, mend_next}
use Rattle.capture.proofs.mending.feed.Goals as goal

pub returns-then-kept-ne-KEPT : goal.returns-then-kept-ne-KEPT
returns-then-kept-ne-KEPT c =
    let a = c.args in
    mend_not_kept a.m a.kept.now a.state.now a.piece.now a.copy.now a.copied a.list.now a.listed c.if-kept-ne-KEPT.true

pub returns-then-state-ne-LENGTH : goal.returns-then-state-ne-LENGTH
returns-then-state-ne-LENGTH c =
    let a = c.args in
    mend_not_lent a.m a.kept.now a.state.now a.piece.now a.copy.now a.copied a.list.now a.listed c.if-kept-ne-KEPT.false c.if-state-ne-LENGTH.true

pub loop-i-init : goal.loop-i-init
loop-i-init c =
    let a = c.args in
    mend_first a.m a.kept.now a.state.now a.piece.now a.copy.now a.copied a.list.now a.listed c.if-kept-ne-KEPT.false c.if-state-ne-LENGTH.false

pub slice_bounds-step-count : goal.slice_bounds-step-count
slice_bounds-step-count c =
    omega (arith, c.loop-i.invariant.low)

pub step-f-requires : goal.step-f-requires
step-f-requires c =
    let l = c.loop-i in
    let h = sym c.have_room.ensures ∙ not-false _ c.if-not-have_room.false-raw in
    let o = sym c.is_over.ensures ∙ c.if-is_over.false in
    (l.invariant.long, (l.invariant.lent, (h, (o, simp (length-take, length-drop) (omega (arith, c.loop-i-test.true))))))

pub overflow_add-i : goal.overflow_add-i
overflow_add-i c =
    let p = c.args.piece.now in
    let l = c.loop-i in
    let s = rw (part-all l.i p) at c.step-f.ensures in
    omega (arith, s.within, length-drop l.i p, l.invariant.low, c.well_formed)

pub loop-i-smaller : goal.loop-i-smaller
loop-i-smaller c =
    omega (arith, c.step-f.ensures.within, c.step-f.ensures.any, c.loop-i-test.true)

pub loop-i-preserved : goal.loop-i-preserved
loop-i-preserved c =
    let a = c.args in
    let l = c.loop-i in
    mend_next a.m a.kept.now a.state.now a.piece.now a.copy.now a.copied a.list.now a.listed c.if-kept-ne-KEPT.false c.if-state-ne-LENGTH.false
    l.kept l.state l.copy l.list l.held l.end l.left l.i l.invariant
    c.step-f.result _ _ _ _ c.step-f.auto.kept c.step-f.auto.state c.step-f.auto.copy c.step-f.auto.list (rw (part-all l.i a.piece.now) at c.step-f.ensures)

pub shape_of-kept-after-loop-i : goal.shape_of-kept-after-loop-i
shape_of-kept-after-loop-i c =
    c.loop-i.invariant.long ∙ sym c.if-kept-ne-KEPT.false

pub shape_of-state-after-loop-i : goal.shape_of-state-after-loop-i
shape_of-state-after-loop-i c =
    c.loop-i.invariant.lent ∙ sym c.if-state-ne-LENGTH.false

pub shape_of-copy-after-loop-i : goal.shape_of-copy-after-loop-i
shape_of-copy-after-loop-i c =
    c.loop-i.invariant.copies

pub shape_of-list-after-loop-i : goal.shape_of-list-after-loop-i
shape_of-list-after-loop-i c =
    c.loop-i.invariant.lists

pub returns-after-loop-i : goal.returns-after-loop-i
returns-after-loop-i c =
    let a = c.args in
    let l = c.loop-i in
    mend_all a.m a.kept.now a.state.now a.piece.now a.copy.now a.copied a.list.now a.listed c.if-kept-ne-KEPT.false c.if-state-ne-LENGTH.false
    l.kept l.state l.copy l.list l.held l.end l.left l.i l.invariant c.loop-i-test.false

pub shape_of-kept-then-not-have_room : goal.shape_of-kept-then-not-have_room
shape_of-kept-then-not-have_room c =
    c.loop-i.invariant.long ∙ sym c.if-kept-ne-KEPT.false

pub shape_of-state-then-not-have_room : goal.shape_of-state-then-not-have_room
shape_of-state-then-not-have_room c =
    c.loop-i.invariant.lent ∙ sym c.if-state-ne-LENGTH.false

pub shape_of-copy-then-not-have_room : goal.shape_of-copy-then-not-have_room
shape_of-copy-then-not-have_room c =
    c.loop-i.invariant.copies

pub shape_of-list-then-not-have_room : goal.shape_of-list-then-not-have_room
shape_of-list-then-not-have_room c =
    c.loop-i.invariant.lists

pub returns-then-not-have_room : goal.returns-then-not-have_room
returns-then-not-have_room c =
    let a = c.args in
    let l = c.loop-i in
    mend_full a.m a.kept.now a.state.now a.piece.now a.copy.now a.copied a.list.now a.listed c.if-kept-ne-KEPT.false c.if-state-ne-LENGTH.false
    l.kept l.state l.copy l.list l.held l.end l.left l.i l.invariant
    (sym c.have_room.ensures ∙ not-true _ c.if-not-have_room.true-raw)

pub shape_of-kept-then-is_over : goal.shape_of-kept-then-is_over
shape_of-kept-then-is_over c =
    c.loop-i.invariant.long ∙ sym c.if-kept-ne-KEPT.false

pub shape_of-state-then-is_over : goal.shape_of-state-then-is_over
shape_of-state-then-is_over c =
    c.loop-i.invariant.lent ∙ sym c.if-state-ne-LENGTH.false

pub shape_of-copy-then-is_over : goal.shape_of-copy-then-is_over
shape_of-copy-then-is_over c =
    c.loop-i.invariant.copies

pub shape_of-list-then-is_over : goal.shape_of-list-then-is_over
shape_of-list-then-is_over c =
    c.loop-i.invariant.lists

pub returns-then-is_over : goal.returns-then-is_over
returns-then-is_over c =
    let a = c.args in
    let l = c.loop-i in
    mend_over a.m a.kept.now a.state.now a.piece.now a.copy.now a.copied a.list.now a.listed c.if-kept-ne-KEPT.false c.if-state-ne-LENGTH.false
    l.kept l.state l.copy l.list l.held l.end l.left l.i l.invariant
    (sym c.have_room.ensures ∙ not-false _ c.if-not-have_room.false-raw) (sym c.is_over.ensures ∙ c.if-is_over.true)

-- `capture::replaying::feed` meets its contract. Assumes nothing.
use Rattle.std.proofs.Common.{◌+◌, ◌≤◌, length, sym, ◌∙◌, arith, length-drop, length-take, leb-true}
use borrow.Author.Tests.{not-true, not-false}
use Rattle.capture.proofs.Answering.{part-all}
use Rattle.capture.proofs.Stepping.{not_kept, not_lent, going-first, fed-all, fed-full, fed-over, fed-next}
use Rattle.capture.specs.Machine.{most_text}
use Rattle.capture.proofs.replaying.feed.Goals as goal

pub returns-then-kept-ne-KEPT : goal.returns-then-kept-ne-KEPT
returns-then-kept-ne-KEPT c =
    let a = c.args in
    not_kept a.r a.kept.now a.state.now a.piece.now a.out.now a.at c.if-kept-ne-KEPT.true

pub returns-then-state-ne-LENGTH : goal.returns-then-state-ne-LENGTH
returns-then-state-ne-LENGTH c =
    let a = c.args in
    not_lent a.r a.kept.now a.state.now a.piece.now a.out.now a.at c.if-kept-ne-KEPT.false c.if-state-ne-LENGTH.true

pub loop-i-init : goal.loop-i-init
loop-i-init c =
    let a = c.args in
    going-first a.kept.now a.state.now a.out.now a.piece.now a.r a.at c.if-kept-ne-KEPT.false c.if-state-ne-LENGTH.false

pub slice_bounds-step-count : goal.slice_bounds-step-count
slice_bounds-step-count c =
    omega (arith, c.loop-i.invariant.low)

pub step-f-requires : goal.step-f-requires
step-f-requires c =
    let l = c.loop-i in
    let h : l.end + most_text ≤ length l.out = leb-true _ _ (sym c.has_room.ensures ∙ not-false _ c.if-not-has_room.false-raw) in
    let o = sym c.is_over.ensures ∙ c.if-is_over.false in
    (l.invariant.long, (l.invariant.lent, (h, (o, simp (length-take, length-drop) (omega (arith, c.loop-i-test.true))))))

pub overflow_add-i : goal.overflow_add-i
overflow_add-i c =
    let p = c.args.piece.now in
    let l = c.loop-i in
    let s = rw (part-all l.i p) at c.step-f.ensures in
    omega (arith, s.within, length-drop l.i p, l.invariant.low, c.well_formed)

pub loop-i-smaller : goal.loop-i-smaller
loop-i-smaller c =
    omega (arith, c.step-f.ensures.within, c.step-f.ensures.any, c.loop-i-test.true)

pub loop-i-preserved : goal.loop-i-preserved
loop-i-preserved c =
    let a = c.args in
    let l = c.loop-i in
    fed-next a.r a.kept.now a.state.now a.out.now a.piece.now a.at l.kept l.state l.out l.held l.end l.i c.if-kept-ne-KEPT.false c.if-state-ne-LENGTH.false l.invariant
    c.step-f.result _ _ _ c.step-f.auto.kept c.step-f.auto.state c.step-f.auto.out (rw (part-all l.i a.piece.now) at c.step-f.ensures)

pub shape_of-kept-after-loop-i : goal.shape_of-kept-after-loop-i
shape_of-kept-after-loop-i c =
    c.loop-i.invariant.long ∙ sym c.if-kept-ne-KEPT.false

pub shape_of-state-after-loop-i : goal.shape_of-state-after-loop-i
shape_of-state-after-loop-i c =
    c.loop-i.invariant.lent ∙ sym c.if-state-ne-LENGTH.false

pub shape_of-out-after-loop-i : goal.shape_of-out-after-loop-i
shape_of-out-after-loop-i c =
    c.loop-i.invariant.text

pub returns-after-loop-i : goal.returns-after-loop-i
returns-after-loop-i c =
    let a = c.args in
    let l = c.loop-i in
    fed-all a.r a.kept.now a.state.now a.out.now a.piece.now a.at l.kept l.state l.out l.held l.end l.i c.if-kept-ne-KEPT.false
    c.if-state-ne-LENGTH.false l.invariant c.loop-i-test.false

pub shape_of-kept-then-not-has_room : goal.shape_of-kept-then-not-has_room
shape_of-kept-then-not-has_room c =
    c.loop-i.invariant.long ∙ sym c.if-kept-ne-KEPT.false

pub shape_of-state-then-not-has_room : goal.shape_of-state-then-not-has_room
shape_of-state-then-not-has_room c =
    c.loop-i.invariant.lent ∙ sym c.if-state-ne-LENGTH.false

pub shape_of-out-then-not-has_room : goal.shape_of-out-then-not-has_room
shape_of-out-then-not-has_room c =
    c.loop-i.invariant.text

pub returns-then-not-has_room : goal.returns-then-not-has_room
returns-then-not-has_room c =
    let a = c.args in
    let l = c.loop-i in
    fed-full a.r a.kept.now a.state.now a.out.now a.piece.now a.at l.kept l.state l.out l.held l.end l.i c.if-kept-ne-KEPT.false c.if-state-ne-LENGTH.false l.invariant
    (sym c.has_room.ensures ∙ not-true _ c.if-not-has_room.true-raw)

pub shape_of-kept-then-is_over : goal.shape_of-kept-then-is_over
shape_of-kept-then-is_over c =
    c.loop-i.invariant.long ∙ sym c.if-kept-ne-KEPT.false

pub shape_of-state-then-is_over : goal.shape_of-state-then-is_over
shape_of-state-then-is_over c =
    c.loop-i.invariant.lent ∙ sym c.if-state-ne-LENGTH.false

pub shape_of-out-then-is_over : goal.shape_of-out-then-is_over
shape_of-out-then-is_over c =
    c.loop-i.invariant.text

pub returns-then-is_over : goal.returns-then-is_over
returns-then-is_over c =
    let a = c.args in
    let l = c.loop-i in
    fed-over a.r a.kept.now a.state.now a.out.now a.piece.now a.at l.kept l.state l.out l.held l.end l.i c.if-kept-ne-KEPT.false c.if-state-ne-LENGTH.false l.invariant
    (sym c.has_room.ensures ∙ not-false _ c.if-not-has_room.false-raw) (sym c.is_over.ensures ∙ c.if-is_over.true)

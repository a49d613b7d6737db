-- `capture::fields::gather` meets its contract. Assumes nothing.
use Rattle.std.proofs.Common.{◌≡◌, length, drop, sym, ap, ◌∙◌, arith, length-drop, length-set}
use Rattle.capture.specs.Inner.{Gathering, gathering}
use Rattle.capture.proofs.Gathered.{gather_last, gather_more, gather_none, gather_within}
use Rattle.capture.proofs.Answering.{part-all}
use Rattle.capture.proofs.fields.gather.Goals as goal

pub overflow_add-result : goal.overflow_add-result
overflow_add-result c =
    let a = c.args in
    let l = c.loop-i in
    let e = ap (λ (x : Gathering). x.taken) (rw (part-all l.i a.piece.now) at c.gather_rest-g.ensures) in
    omega (arith, e, gather_within l.kept l.have (drop l.i a.piece.now), length-drop l.i a.piece.now, l.invariant.0, c.well_formed)

pub returns-then-is_last : goal.returns-then-is_last
returns-then-is_last c =
    let l = c.loop-i in
    let a = c.args in
    rw c.keep.ensures (gather_last (gathering a.kept.now a.got a.piece.now) l.kept a.piece.now l.have l.i c.loop-i-test.true l.invariant.2
    (rw c.keep.ensures at (sym c.is_last.ensures.0 ∙ c.if-is_last.true)))

pub loop-i-preserved : goal.loop-i-preserved
loop-i-preserved c =
    let l = c.loop-i in
    let a = c.args in (
      omega arith,
      ap length c.keep.ensures ∙ length-set l.kept _ _ ∙ l.invariant.1,
      rw c.keep.ensures (gather_more (gathering a.kept.now a.got a.piece.now) l.kept a.piece.now l.have l.i c.loop-i-test.true l.invariant.2
          (rw c.keep.ensures at (sym c.is_last.ensures.0 ∙ c.if-is_last.false))),
    )

pub returns : goal.returns
returns c =
    let l = c.loop-i in
    let a = c.args in
    let e : l.i ≡ length a.piece.now = omega arith in
    rw e at (gather_none (gathering a.kept.now a.got a.piece.now) l.kept a.piece.now l.have l.i c.loop-i-test.false l.invariant.2)

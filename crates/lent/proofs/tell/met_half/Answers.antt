-- `lent::tell::met_half` meets its contract. Assumes nothing.
use mathlib.Core.Path.{◌≡◌, refl, sym, ap, ◌∙◌}
use mathlib.Core.Bool.{true, false}
use lib.Dec.{eqb}
use borrow.Author.Tests.{not-true, eq-eqb, ne_eqb}
use Rattle.bits.specs.Field.{pick}
use Rattle.receiver.specs.Model.{agree, joined_of}
use Rattle.layout.specs.Layout.{record_at}
use Rattle.lent.proofs.Outcomes.{left-again, left-apart, left-joined}
use Rattle.lent.proofs.tell.met_half.Goals as goal
use Rattle.lent.proofs.tell.met_half.Goals.{then-half-eq1, else-half-eq1}

pub half_at-requires : goal.half_at-requires
half_at-requires c = tt

pub put_number-requires : goal.put_number-requires
put_number-requires c = tt

pub returns-then-half_at-half : goal.returns-then-half_at-half
returns-then-half_at-half c =
    let a = c.args in
    let p = c.requires in
    let q = p.1.1.1 in
    left-again a.b.now a.cell a.ch a.j a.i _ a.half (record_at a.o.now 0) p.0 p.1.1.0 c.place_on-at.ensures q.1.0 _ q.1.1.1.1 _
    c.half_at.ensures _ c.if-half_at-half.true c.put_number.ensures

pub held_at-h-requires : goal.held_at-h-requires
held_at-h-requires c = tt

pub agrees-requires : goal.agrees-requires
agrees-requires c = tt

pub put_number-requires-then-not-agrees : goal.put_number-requires-then-not-agrees
put_number-requires-then-not-agrees c = tt

pub returns-then-not-agrees : goal.returns-then-not-agrees
returns-then-not-agrees c =
    let a = c.args in
    let p = c.requires in
    let q = p.1.1.1 in
    let v : agree c.held_at-h.result (record_at a.o.now 0) ≡ false =
    ap (agree c.held_at-h.result) (sym c.record_in-e.ensures) ∙ sym c.agrees.ensures ∙ not-true c.agrees.result c.if-not-agrees.true-raw
    in
    left-apart a.b.now a.cell a.ch a.j a.i _ a.half (record_at a.o.now 0) p.0 p.1.1.0 c.place_on-at.ensures q.1.0 _ q.1.1.1.1 _
    c.half_at.ensures c.if-half_at-half.false _ c.held_at-h.ensures _ v c.put_number-then-not-agrees.ensures

pub set_at-set-requires : goal.set_at-set-requires
set_at-set-requires c = tt

pub clear-requires : goal.clear-requires
clear-requires c = tt

pub join-y-requires : goal.join-y-requires
join-y-requires c = tt

pub join-y-requires-else-half-eq1 : goal.join-y-requires-else-half-eq1
join-y-requires-else-half-eq1 c = tt

pub put_complete-requires : goal.put_complete-requires
put_complete-requires c = tt

pub returns : goal.returns
returns c =
    let a = c.args in
    let p = c.requires in
    let q = p.1.1.1 in
    let e = record_at a.o.now 0 in
    let v : agree c.held_at-h.result e ≡ true = ap (agree c.held_at-h.result) (sym c.record_in-e.ensures) ∙ sym c.agrees.ensures ∙ c.if-not-agrees.false in
    let y : c.if-half-eq1.y ≡ pick (eqb a.half 1) (joined_of e c.held_at-h.result) (joined_of c.held_at-h.result e) =
    rw (← c.record_in-e.ensures)
    (elim c.if-half-eq1.branch [
      | then-half-eq1 w ↦ w.y-is ∙ w.join-y.ensures
          ∙ sym (ap (λ b. pick b (joined_of c.record_in-e.result c.held_at-h.result) (joined_of c.held_at-h.result c.record_in-e.result)) (eq-eqb a.half 1 w.if-half-eq1.true))
      | else-half-eq1
          w ↦ w.y-is ∙ w.join-y-else-half-eq1.ensures
          ∙ sym (ap (λ b. pick b (joined_of c.record_in-e.result c.held_at-h.result) (joined_of c.held_at-h.result c.record_in-e.result)) (ne_eqb a.half 1 w.if-half-eq1.false))
    ])
    in
    left-joined a.b.now a.cell a.ch a.j a.i _ a.half e p.0 p.1.1.0 c.place_on-at.ensures q.1.0 _ q.1.1.1.1 _
    c.half_at.ensures c.if-half_at-half.false _ c.held_at-h.ensures _ _ _ v y c.clear.ensures q.0 _ c.set_at-set.ensures _ refl c.put_complete.ensures

-- `lent::tell::ours` meets its contract. Assumes nothing.
use mathlib.Core.Path.{◌≡◌, refl, sym, ap, ◌∙◌}
use mathlib.Core.Bool.{true}
use mathlib.Core.List.{List}
use Prim.Native.Nat.{ℕ}
use native.Mathlib.Omega.{arith}
use borrow.Author.Tests.{not-true}
use Rattle.bits.specs.Field.{pick}
use Rattle.receiver.specs.Channels.{leads}
use Rattle.layout.specs.Layout.{is_place, record_at}
use Rattle.layout.proofs.Packing.{laid-slot}
use Rattle.lent.proofs.Outcomes.{left-whole, left-none, place-held, left-half, left-early, left-stored}
use Rattle.lent.proofs.tell.ours.Goals as goal
use Rattle.lent.proofs.tell.ours.Goals.{then-c-eq4+else-not-leads, else-c-eq4}

pub set_at-set-requires : goal.set_at-set-requires
set_at-set-requires c = tt

pub returns-then-c-lt3 : goal.returns-then-c-lt3
returns-then-c-lt3 c =
    let a = c.args in
    let p = c.requires in
    let q = p.1.1.1 in
    left-whole a.b.now a.cell a.ch a.tick a.j a.i (record_at a.o.now 0) p.0 p.1.1.0 _ _ q.1.1.0 q.1.1.1 _
    c.if-c-lt3.true q.0 _ c.set_at-set.ensures _ refl c.put_whole.ensures

pub put_number-requires : goal.put_number-requires
put_number-requires c = tt

pub returns-then-c-gt4 : goal.returns-then-c-gt4
returns-then-c-gt4 c =
    let a = c.args in
    let p = c.requires in
    let q = p.1.1.1 in
    left-none a.b.now a.cell a.ch a.tick a.j a.i (record_at a.o.now 0) p.0 p.1.1.0 _ _ q.1.1.0 q.1.1.1 _
    c.if-c-gt4.true c.put_number.ensures

pub half_at-requires : goal.half_at-requires
half_at-requires c = tt

pub met_half-requires : goal.met_half-requires
met_half-requires c =
    let a = c.args in
    let p = c.requires in
    let q = p.1.1.1 in
    let n =
    place-held a.b.now a.cell a.ch a.tick a.j a.i (record_at a.o.now 0) p.0 p.1.1.0 _ _ q.1.1.0 q.1.1.1 _ c.place_on-at.ensures
    c.if-c-lt3.false c.if-c-gt4.false _ c.half_at.ensures c.if-half_at-ne0.true
    in
    (p.0, (p.1.0, (p.1.1.0, (q.0, (n, (omega (arith, c.if-c-lt3.false), (omega (arith, c.if-c-gt4.false), q.1.1.0)))))))

pub returns-then-half_at-ne0 : goal.returns-then-half_at-ne0
returns-then-half_at-ne0 c =
    let a = c.args in
    let p = c.requires in
    let q = p.1.1.1 in
    left-half a.b.now a.cell a.ch a.tick a.j a.i (record_at a.o.now 0) p.0 p.1.1.0 _ _ q.1.1.0 q.1.1.1 _
    c.place_on-at.ensures c.if-c-lt3.false c.if-c-gt4.false _ c.half_at.ensures _ c.if-half_at-ne0.true c.met_half.ensures

pub leads-requires : goal.leads-requires
leads-requires c = tt

pub put_number-requires-then-not-leads : goal.put_number-requires-then-not-leads
put_number-requires-then-not-leads c = tt

pub returns-then-not-leads : goal.returns-then-not-leads
returns-then-not-leads c =
    let a = c.args in
    let p = c.requires in
    let q = p.1.1.1 in
    left-early a.b.now a.cell a.ch a.tick a.j a.i (record_at a.o.now 0) p.0 p.1.1.0 _ _ q.1.1.0 q.1.1.1 _
    c.place_on-at.ensures c.if-c-lt3.false c.if-c-gt4.false _ c.half_at.ensures c.if-half_at-ne0.false _ c.if-c-eq4.true
    (sym c.leads.ensures ∙ not-true c.leads.result c.if-not-leads.true-raw) c.put_number-then-not-leads.ensures

pub lay-requires : goal.lay-requires
lay-requires c = tt

pub put_number-requires-2 : goal.put_number-requires-2
put_number-requires-2 c = tt

pub returns : goal.returns
returns c =
    let a = c.args in
    let p = c.requires in
    let q = p.1.1.1 in
    let l = a.b.now in
    let at = c.place_on-at.result in
    let f : a.c ≡ 4 → leads a.ch ≡ true =
    λ u. elim c.if-c-eq4.branch [ then-c-eq4+else-not-leads w ↦ sym w.leads.ensures ∙ w.if-not-leads.false | else-c-eq4 w ↦ absurd (w.if-c-eq4.false u) ]
    in
    let d = c.lay.ensures ∙ ap (λ (x : List ℕ). pick (is_place l at) x l) (laid-slot l at _ a.tick (record_at a.o.now 0) a.o.now q.1.0) in
    left-stored l a.cell a.ch a.tick a.j a.i (record_at a.o.now 0) p.0 p.1.1.0 _ _ q.1.1.0 q.1.1.1 _ c.place_on-at.ensures
    c.if-c-lt3.false c.if-c-gt4.false _ c.half_at.ensures c.if-half_at-ne0.false _ _ f d c.put_number-2.ensures

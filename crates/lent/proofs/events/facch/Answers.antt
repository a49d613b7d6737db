-- `lent::events::facch` meets its contract. Assumes nothing.
use mathlib.Core.Path.{refl, sym, ap, ◌∙◌}
use Rattle.facch.specs.declared.Reading.{Reading}
use Rattle.receiver.specs.Step.{content_of, heardFacch, facch}
use Rattle.lent.proofs.Feeding.{fed-early, whole-then, fed-refused, fed-accepted, call-entries, call-paged, page_entries}
use Rattle.lent.proofs.events.facch.Goals as goal

pub early-n-requires : goal.early-n-requires
early-n-requires c = tt

pub returns-then-n-ne0 : goal.returns-then-n-ne0
returns-then-n-ne0 c =
    let a = c.args in
    fed-early a.b.now (facch a.time a.octets.now) _ c.early-n.ensures c.if-n-ne0.true

pub read-m-requires : goal.read-m-requires
read-m-requires c = tt

pub code-requires : goal.code-requires
code-requires c = tt

pub returns-then-m-ne0 : goal.returns-then-m-ne0
returns-then-m-ne0 c =
    let a = c.args in
    fed-refused a.b.now (facch a.time a.octets.now) _ c.early-n.ensures c.if-n-ne0.false _ (ap (λ (r : Reading). r.refusal) c.read-m.ensures)
    c.if-m-ne0.true _ c.code.ensures

pub accept_page-requires : goal.accept_page-requires
accept_page-requires c =
    let a = c.args in
    whole-then a.b.now (facch a.time a.octets.now) _ c.early-n.ensures c.if-n-ne0.false

pub returns-then-record : goal.returns-then-record
returns-then-record c =
    let a = c.args in
    let s = a.octets.now in
    let r = c.read-m.ensures in
    let p = page_entries c.read-m.result.«record» c.if-record.true in
    fed-accepted a.b.now (facch a.time s) _ c.early-n.ensures c.if-n-ne0.false _ _ _ (sym (ap (λ (x : Reading). x.refusal.number) r) ∙ c.if-m-ne0.false)
    (content_of (heardFacch s)) refl refl refl (rw (← r, p) c.accept_page.ensures)

pub accept_facch-requires : goal.accept_facch-requires
accept_facch-requires c =
    let a = c.args in
    whole-then a.b.now (facch a.time a.octets.now) _ c.early-n.ensures c.if-n-ne0.false

pub returns : goal.returns
returns c =
    let a = c.args in
    let s = a.octets.now in
    let r = c.read-m.ensures in
    let m = c.read-m.result.«record» in
    fed-accepted a.b.now (facch a.time s) _ c.early-n.ensures c.if-n-ne0.false _ _ _ (sym (ap (λ (x : Reading). x.refusal.number) r) ∙ c.if-m-ne0.false)
    (content_of (heardFacch s)) refl refl refl (rw (← r, call-entries m c.if-record.false, call-paged m c.if-record.false) c.accept_facch.ensures)

-- `lent::events::pch` meets its contract. Assumes nothing.
use mathlib.Core.Path.{refl, sym, ap, ◌∙◌}
use Rattle.pch.specs.declared.Reading.{Reading}
use Rattle.receiver.specs.Channels.{key_count, has_pages}
use Rattle.receiver.specs.Model.{key_of, index_of, rule_for}
use Rattle.receiver.specs.Step.{content_of, heard_pch, pch}
use Rattle.layout.specs.Layout.{keys_in}
use Rattle.layout.proofs.States.{at-state}
use Rattle.lent.proofs.Feeding.{fed-early, whole-then, fed-refused, fed-accepted}
use Rattle.lent.proofs.events.pch.Goals as goal

pub early-n-requires : goal.early-n-requires
early-n-requires c = tt

pub returns-then-n-ne0 : goal.returns-then-n-ne0
returns-then-n-ne0 c =
    let a = c.args in
    fed-early a.b.now (pch a.time a.numbers.now) _ c.early-n.ensures c.if-n-ne0.true

pub read-m-requires : goal.read-m-requires
read-m-requires c = tt

pub code-requires : goal.code-requires
code-requires c = tt

pub returns-then-m-ne0 : goal.returns-then-m-ne0
returns-then-m-ne0 c =
    let a = c.args in
    fed-refused a.b.now (pch a.time a.numbers.now) _ c.early-n.ensures c.if-n-ne0.false _ (ap (λ (r : Reading). r.refusal) c.read-m.ensures)
    c.if-m-ne0.true _ c.code.ensures

pub key_of-requires : goal.key_of-requires
key_of-requires c = tt

pub index_of-i-requires : goal.index_of-i-requires
index_of-i-requires c = tt

pub page_rule-requires : goal.page_rule-requires
page_rule-requires c = tt

pub accept_pch-requires : goal.accept_pch-requires
accept_pch-requires c =
    let a = c.args in
    whole-then a.b.now (pch a.time a.numbers.now) _ c.early-n.ensures c.if-n-ne0.false

pub returns : goal.returns
returns c =
    let a = c.args in
    let l = a.b.now in
    let s = a.numbers.now in
    let e = pch a.time s in
    let q = c.early-n.ensures in
    let z = c.if-n-ne0.false in
    let r = c.read-m.ensures in
    let k = c.key_of.ensures ∙ ap (λ (x : Reading). key_of x.«record».call) r in
    let i = c.index_of-i.ensures ∙ at-state l (index_of (keys_in l) _) key_count (whole-then l e _ q z) ∙ ap (index_of (keys_in l)) k in
    fed-accepted l e _ q z _ _ _ (sym (ap (λ (x : Reading). x.refusal.number) r) ∙ c.if-m-ne0.false) (content_of (heard_pch s)) refl
    (c.page_rule.ensures ∙ ap (rule_for has_pages) i) refl (rw (← r) c.accept_pch.ensures)

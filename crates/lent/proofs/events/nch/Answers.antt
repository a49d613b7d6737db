-- `lent::events::nch` meets its contract. Assumes nothing.
use mathlib.Core.Path.{refl, sym, ap, ◌∙◌}
use Rattle.csn1.specs.declared.Refusal.{Refusal}
use Rattle.nch.specs.NotificationNumbers.{record_from}
use Rattle.nch.specs.Told.{read_of}
use Rattle.nch.proofs.InLimits.{read_fits, record_read, read_whole}
use Rattle.receiver.specs.Step.{content_of, heardNch, nch}
use Rattle.receiver.proofs.Accepted.{few}
use Rattle.receiver.proofs.Entering.{numbering_rule}
use Rattle.layout.specs.Layout.{decode_of}
use Rattle.lent.proofs.Feeding.{fed-early, whole-then, fed-refused, fed-accepted}
use Rattle.lent.proofs.events.nch.Goals as goal

pub early-n-requires : goal.early-n-requires
early-n-requires c = tt

pub returns-then-n-ne0 : goal.returns-then-n-ne0
returns-then-n-ne0 c =
    let a = c.args in
    fed-early a.b.now (nch a.time a.octets.now) _ c.early-n.ensures c.if-n-ne0.true

pub read_into-r-requires : goal.read_into-r-requires
read_into-r-requires c = tt

pub code-requires : goal.code-requires
code-requires c = tt

pub returns-then-r-ne0 : goal.returns-then-r-ne0
returns-then-r-ne0 c =
    let a = c.args in
    fed-refused a.b.now (nch a.time a.octets.now) _ c.early-n.ensures c.if-n-ne0.false _ c.read_into-r.ensures.0
    c.if-r-ne0.true _ c.code.ensures

pub accept_nch-requires : goal.accept_nch-requires
accept_nch-requires c =
    let a = c.args in
    let s = a.octets.now in
    let r = c.read_into-r.ensures in
    let w = read_whole s _ r.1 in
    let f = few (heardNch s) (sym (ap (λ (x : Refusal). x.number) r.0) ∙ c.if-r-ne0.false) in
    (whole-then a.b.now (nch a.time s) _ c.early-n.ensures c.if-n-ne0.false, (rw w (read_fits s), rw (w, record_read s) f))

pub returns : goal.returns
returns c =
    let a = c.args in
    let l = a.b.now in
    let s = a.octets.now in
    let r = c.read_into-r.ensures in
    let v = ap record_from (read_whole s _ r.1) ∙ record_read s in
    fed-accepted l (nch a.time s) _ c.early-n.ensures c.if-n-ne0.false _ _ _ (sym (ap (λ (x : Refusal). x.number) r.0) ∙ c.if-r-ne0.false)
    (content_of (heardNch s)) refl (numbering_rule (decode_of l) (read_of s).«record».hasNln (read_of s).«record».nln) refl (rw v at c.accept_nch.ensures)

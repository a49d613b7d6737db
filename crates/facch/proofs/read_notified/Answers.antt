-- `facch::read_notified` meets its contract. Assumes nothing.
use mathlib.Core.Path.{◌≡◌, sym, ap, ◌∙◌}
use Rattle.bits.specs.Field.{fetched}
use Rattle.bits.specs.declared.Got.TheVariants.{Bits, Short}
use Rattle.csn1.specs.declared.Refusal.{Refusal}
use Rattle.csn1.specs.Format.{bad}
use Rattle.facch.specs.Inner.{notified_at_of}
use Rattle.facch.proofs.Notices.{branch_short, page_notified, call-notified}
use Rattle.facch.proofs.read_notified.Goals as goal

pub returns-in_default : goal.returns-in_default
returns-in_default c =
    let s = c.args.octets.now in
    let e : Short ≡ fetched s 8 1 = sym c.in_default.is ∙ c.field.ensures in
    c.refused_notified.ensures ∙ ap (λ (r : Refusal). notified_at_of (bad r)) c.ran_out.ensures ∙ sym (ap notified_at_of (branch_short s e))

pub returns-then-paging-ne0 : goal.returns-then-paging-ne0
returns-then-paging-ne0 c =
    let branch_got' : Bits c.in-Bits.paging ≡ fetched c.args.octets.now 8 1 = sym c.in-Bits.is ∙ c.field.ensures in
    page_notified c.args.octets.now c.in-Bits.paging branch_got' c.if-paging-ne0.true c.read-p.result c.read-p.ensures c.no_call.result c.no_call.ensures

pub returns : goal.returns
returns c =
    let branch_got' : Bits c.in-Bits.paging ≡ fetched c.args.octets.now 8 1 = sym c.in-Bits.is ∙ c.field.ensures in
    rw c.anew-call.ensures
    (call-notified c.args.octets.now c.in-Bits.paging branch_got' c.if-paging-ne0.false c.requires
    c.read-c.result c.read-c.ensures c.no_page.result c.no_page.ensures)

-- `facch::pages::read` meets its contract. Assumes nothing.
use mathlib.Core.Path.{◌≡◌, sym, ap, ◌∙◌}
use Rattle.bits.specs.Field.{fetched}
use Rattle.bits.specs.declared.Got.TheVariants.{Bits, Short}
use Rattle.csn1.specs.declared.Refusal.{Refusal}
use Rattle.csn1.specs.Format.{bad}
use Rattle.csn1.proofs.Reading.{found, found_lt}
use Rattle.facch.specs.Inner.{page_at_of}
use Rattle.facch.proofs.Notices.{identity-bad, channel-short, priority-bad, priority-small, page-told}
use native.Mathlib.Omega.{arith}
use Rattle.facch.proofs.pages.read.Goals as goal

pub returns-then-i-ne0 : goal.returns-then-i-ne0
returns-then-i-ne0 c =
    c.refused_page.ensures
    ∙ sym (ap page_at_of (identity-bad c.args.s.now c.args.at c.requires c.read_identity-i.result c.read_identity-i.ensures c.if-i-ne0.true))

pub returns-in_default : goal.returns-in_default
returns-in_default c =
    let e : Short ≡ fetched c.args.s.now c.read_identity-i.result.at 2 = sym c.in_default.is ∙ c.field.ensures in
    c.refused_page-in_default.ensures ∙ ap (λ (r : Refusal). page_at_of (bad r)) c.ran_out.ensures
    ∙ sym (ap page_at_of (channel-short c.args.s.now c.args.at c.requires c.read_identity-i.result c.read_identity-i.ensures c.if-i-ne0.false e))

pub overflow_add-i : goal.overflow_add-i
overflow_add-i c =
    let channel-got' : Bits c.in-Bits.channel ≡ fetched c.args.s.now c.read_identity-i.result.at 2 = sym c.in-Bits.is ∙ c.field.ensures in
    omega (arith, (found c.args.s.now c.read_identity-i.result.at 2 c.in-Bits.channel channel-got').within, c.requires)

pub returns-then-p-ne0 : goal.returns-then-p-ne0
returns-then-p-ne0 c =
    let channel-got' : Bits c.in-Bits.channel ≡ fetched c.args.s.now c.read_identity-i.result.at 2 = sym c.in-Bits.is ∙ c.field.ensures in
    c.refused_page-then-p-ne0.ensures
    ∙ sym (ap page_at_of (priority-bad c.args.s.now c.args.at c.requires c.read_identity-i.result c.read_identity-i.ensures c.if-i-ne0.false
    c.in-Bits.channel channel-got' c.read_flagged-p.result c.read_flagged-p.ensures c.if-p-ne0.true))

pub overflow_cast-result : goal.overflow_cast-result
overflow_cast-result c =
    let channel-got' : Bits c.in-Bits.channel ≡ fetched c.args.s.now c.read_identity-i.result.at 2 = sym c.in-Bits.is ∙ c.field.ensures in
    omega (arith, found_lt c.args.s.now c.read_identity-i.result.at 2 c.in-Bits.channel channel-got')

pub overflow_cast-result-2 : goal.overflow_cast-result-2
overflow_cast-result-2 c =
    let channel-got' : Bits c.in-Bits.channel ≡ fetched c.args.s.now c.read_identity-i.result.at 2 = sym c.in-Bits.is ∙ c.field.ensures in
    omega (
      arith,
      priority-small c.args.s.now c.args.at c.requires c.read_identity-i.result c.read_identity-i.ensures c.if-i-ne0.false
          c.in-Bits.channel channel-got' c.read_flagged-p.result c.read_flagged-p.ensures c.if-p-ne0.false,
    )

pub returns : goal.returns
returns c =
    let channel-got' : Bits c.in-Bits.channel ≡ fetched c.args.s.now c.read_identity-i.result.at 2 = sym c.in-Bits.is ∙ c.field.ensures in
    page-told c.args.s.now c.args.at c.requires c.read_identity-i.result c.read_identity-i.ensures c.if-i-ne0.false
    c.in-Bits.channel channel-got' c.read_flagged-p.result c.read_flagged-p.ensures c.if-p-ne0.false c.no_refusal.result c.no_refusal.ensures

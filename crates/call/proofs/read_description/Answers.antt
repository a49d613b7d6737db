-- `call::read_description` meets its contract. Assumes nothing.
use mathlib.Core.Path.{◌≡◌, sym, ap, ◌∙◌}
use Prim.Native.Nat.{◌+◌, ◌<◌, ◌^◌}
use Rattle.bits.specs.Field.{fetched}
use Rattle.bits.specs.declared.Got.TheVariants.{Bits, Short}
use Rattle.csn1.specs.declared.Refusal.{Refusal}
use Rattle.csn1.specs.Format.{bad}
use mathlib.Core.Bool.{false}
use mathlib.Core.Option.{none}
use Rattle.csn1.specs.Grammar.{format}
use Rattle.csn1.proofs.Reading.{found, found_lt}
use Rattle.call.specs.Call.{frequencies, with_frequencies}
use Rattle.call.specs.Inner.{description_at_of}
use Rattle.call.proofs.Reading.{frequencies-grounded, description-short, hopping-short, hopping-refused, description_fixed, description-hops, hopping, hops-refused, hops-told}
use native.Mathlib.Omega.{arith}
use Rattle.call.proofs.read_description.Goals as goal

pub returns-in_default : goal.returns-in_default
returns-in_default c =
    let a = c.args in
    let e : Short ≡ fetched a.s.now a.at 24 = sym c.in_default.is ∙ c.field.ensures in
    c.refused_description.ensures ∙ ap (λ (r : Refusal). description_at_of (bad r)) c.ran_out.ensures
    ∙ sym (ap description_at_of (description-short a.s.now a.at e))

pub overflow_add-at : goal.overflow_add-at
overflow_add-at c =
    let channel-got' : Bits c.in-Bits.channel ≡ fetched c.args.s.now c.args.at 24 = sym c.in-Bits.is ∙ c.field.ensures in
    let a = c.args in
    let f = found a.s.now a.at 24 _ channel-got' in
    omega arith

pub overflow_add-at-in_default-field : goal.overflow_add-at-in_default-field
overflow_add-at-in_default-field c =
    let channel-got' : Bits c.in-Bits.channel ≡ fetched c.args.s.now c.args.at 24 = sym c.in-Bits.is ∙ c.field.ensures in
    let a = c.args in
    let f = found a.s.now a.at 24 _ channel-got' in
    omega arith

pub returns-in_default-field : goal.returns-in_default-field
returns-in_default-field c =
    let channel-got' : Bits c.in-Bits.channel ≡ fetched c.args.s.now c.args.at 24 = sym c.in-Bits.is ∙ c.field.ensures in
    let a = c.args in
    let e : Short ≡ fetched a.s.now (a.at + 24) 1 = sym c.in_default-field.is ∙ c.field-2.ensures in
    c.refused_description-in_default-field.ensures ∙ ap (λ (r : Refusal). description_at_of (bad r)) c.ran_out-in_default-field.ensures
    ∙ sym (ap description_at_of (hopping-short a.s.now a.at _ channel-got' e))

pub returns-then-channel-flag : goal.returns-then-channel-flag
returns-then-channel-flag c =
    let channel-got' : Bits c.in-Bits.channel ≡ fetched c.args.s.now c.args.at 24 = sym c.in-Bits.is ∙ c.field.ensures in
    let flag-got' : Bits c.in-Bits-field.flag ≡ fetched c.args.s.now (c.args.at + 24) 1 = sym c.in-Bits-field.is ∙ c.field-2.ensures in
    let a = c.args in
    c.refused_description-then-channel-flag.ensures ∙ ap (λ (r : Refusal). description_at_of (bad r)) c.ground.ensures
    ∙ sym (ap description_at_of (hopping-refused a.s.now a.at _ channel-got' _ flag-got' c.if-channel-flag.true))

pub overflow_cast-result : goal.overflow_cast-result
overflow_cast-result c =
    let channel-got' : Bits c.in-Bits.channel ≡ fetched c.args.s.now c.args.at 24 = sym c.in-Bits.is ∙ c.field.ensures in
    let a = c.args in
    let l : c.in-Bits.channel < 2 ^ 24 = found_lt a.s.now a.at 24 _ channel-got' in
    omega arith

pub overflow_add-result : goal.overflow_add-result
overflow_add-result c =
    let flag-got' : Bits c.in-Bits-field.flag ≡ fetched c.args.s.now (c.args.at + 24) 1 = sym c.in-Bits-field.is ∙ c.field-2.ensures in
    let a = c.args in
    let f = found a.s.now (a.at + 24) 1 _ flag-got' in
    omega arith

pub returns-then-flag-eq0 : goal.returns-then-flag-eq0
returns-then-flag-eq0 c =
    let channel-got' : Bits c.in-Bits.channel ≡ fetched c.args.s.now c.args.at 24 = sym c.in-Bits.is ∙ c.field.ensures in
    let flag-got' : Bits c.in-Bits-field.flag ≡ fetched c.args.s.now (c.args.at + 24) 1 = sym c.in-Bits-field.is ∙ c.field-2.ensures in
    let a = c.args in
    ap (λ (r : Refusal). record { refusal = r; description = with_frequencies c.in-Bits.channel false none; at = a.at + 25 }) c.no_refusal.ensures
    ∙ sym (ap description_at_of (description_fixed a.s.now a.at _ channel-got' _ flag-got' c.if-channel-flag.false c.if-flag-eq0.true))

pub overflow_add-at-2 : goal.overflow_add-at-2
overflow_add-at-2 c =
    let flag-got' : Bits c.in-Bits-field.flag ≡ fetched c.args.s.now (c.args.at + 24) 1 = sym c.in-Bits-field.is ∙ c.field-2.ensures in
    let a = c.args in
    let f = found a.s.now (a.at + 24) 1 _ flag-got' in
    omega arith

pub returns-then-f-ne0 : goal.returns-then-f-ne0
returns-then-f-ne0 c =
    let channel-got' : Bits c.in-Bits.channel ≡ fetched c.args.s.now c.args.at 24 = sym c.in-Bits.is ∙ c.field.ensures in
    let flag-got' : Bits c.in-Bits-field.flag ≡ fetched c.args.s.now (c.args.at + 24) 1 = sym c.in-Bits-field.is ∙ c.field-2.ensures in
    let a = c.args in
    c.refused_description-then-f-ne0.ensures
    ∙ hops-refused _ _ ((format frequencies).read a.s.now (a.at + 25)) c.read_frequencies-f.ensures c.if-f-ne0.true
    ∙ sym (ap description_at_of (description-hops a.s.now a.at _ channel-got' _ flag-got' c.if-channel-flag.false c.if-flag-eq0.false))

pub overflow_cast-result-2 : goal.overflow_cast-result-2
overflow_cast-result-2 c =
    let channel-got' : Bits c.in-Bits.channel ≡ fetched c.args.s.now c.args.at 24 = sym c.in-Bits.is ∙ c.field.ensures in
    let a = c.args in
    let l : c.in-Bits.channel < 2 ^ 24 = found_lt a.s.now a.at 24 _ channel-got' in
    omega arith

pub returns : goal.returns
returns c =
    let channel-got' : Bits c.in-Bits.channel ≡ fetched c.args.s.now c.args.at 24 = sym c.in-Bits.is ∙ c.field.ensures in
    let flag-got' : Bits c.in-Bits-field.flag ≡ fetched c.args.s.now (c.args.at + 24) 1 = sym c.in-Bits-field.is ∙ c.field-2.ensures in
    let a = c.args in
    let d = c.read_frequencies-f.result in
    ap (λ (r : Refusal). record { refusal = r; description = (hopping c.in-Bits.channel d).description; at = d.at }) c.no_refusal-2.ensures
    ∙ hops-told _ _ ((format frequencies).read a.s.now (a.at + 25)) (frequencies-grounded a.s.now (a.at + 25)) c.read_frequencies-f.ensures c.if-f-ne0.false
    ∙ sym (ap description_at_of (description-hops a.s.now a.at _ channel-got' _ flag-got' c.if-channel-flag.false c.if-flag-eq0.false))

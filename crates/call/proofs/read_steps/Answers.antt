-- `call::read_steps` meets its contract. Assumes nothing.
use mathlib.Core.Path.{◌≡◌, sym, ap, ◌∙◌, ap₂}
use Prim.Native.Nat.{◌+◌}
use Rattle.bits.specs.Field.{fetched}
use Rattle.bits.specs.declared.Got.TheVariants.{Bits, Short}
use Rattle.csn1.specs.declared.Refusal.{Refusal}
use Rattle.csn1.specs.Format.{bad}
use mathlib.Core.Bool.{false}
use mathlib.Core.Option.{none}
use Rattle.csn1.specs.Grammar.{format}
use Rattle.csn1.proofs.Reading.{found, read_at, read-long}
use Rattle.call.specs.declared.Call.{Call}
use Rattle.call.specs.Call.{group_call, description}
use Rattle.call.specs.Told.{call_at_of}
use Rattle.call.specs.Inner.{call_from_head}
use Rattle.call.proofs.Reading.{description-grounded, call-short, reference-refused, described-short, call_plain, call-described, call-told, described-refused, described-told}
use native.Mathlib.Omega.{arith}
use Rattle.call.proofs.read_steps.Goals as goal

pub returns-then-s-gt-LONGEST : goal.returns-then-s-gt-LONGEST
returns-then-s-gt-LONGEST c =
    let a = c.args in
    c.refused_call.ensures ∙ ap (λ (r : Refusal). call_at_of (bad r)) c.ran_out.ensures
    ∙ sym (ap call_at_of (read-long group_call a.s.now a.at (omega arith)))

pub returns-in_default : goal.returns-in_default
returns-in_default c =
    let a = c.args in
    let e : Short ≡ fetched a.s.now a.at 36 = sym c.in_default.is ∙ c.field.ensures in
    c.refused_call-in_default.ensures ∙ ap (λ (r : Refusal). call_at_of (bad r)) c.ran_out-in_default.ensures
    ∙ sym (ap call_at_of (read_at group_call a.s.now a.at (omega arith) ∙ call-short a.s.now a.at e))

pub returns-then-head-gt99999999 : goal.returns-then-head-gt99999999
returns-then-head-gt99999999 c =
    let head-got' : Bits c.in-Bits.head ≡ fetched c.args.s.now c.args.at 36 = sym c.in-Bits.is ∙ c.field.ensures in
    let a = c.args in
    c.refused_call-then-head-gt99999999.ensures ∙ ap (λ (r : Refusal). call_at_of (bad r)) c.ground.ensures
    ∙ sym (ap call_at_of (read_at group_call a.s.now a.at (omega arith) ∙ reference-refused a.s.now a.at _ head-got' (omega arith)))

pub overflow_add-at : goal.overflow_add-at
overflow_add-at c =
    let head-got' : Bits c.in-Bits.head ≡ fetched c.args.s.now c.args.at 36 = sym c.in-Bits.is ∙ c.field.ensures in
    let a = c.args in
    let f = found a.s.now a.at 36 _ head-got' in
    omega arith

pub overflow_add-at-in_default-field : goal.overflow_add-at-in_default-field
overflow_add-at-in_default-field c =
    let head-got' : Bits c.in-Bits.head ≡ fetched c.args.s.now c.args.at 36 = sym c.in-Bits.is ∙ c.field.ensures in
    let a = c.args in
    let f = found a.s.now a.at 36 _ head-got' in
    omega arith

pub returns-in_default-field : goal.returns-in_default-field
returns-in_default-field c =
    let head-got' : Bits c.in-Bits.head ≡ fetched c.args.s.now c.args.at 36 = sym c.in-Bits.is ∙ c.field.ensures in
    let a = c.args in
    let e : Short ≡ fetched a.s.now (a.at + 36) 1 = sym c.in_default-field.is ∙ c.field-2.ensures in
    c.refused_call-in_default-field.ensures ∙ ap (λ (r : Refusal). call_at_of (bad r)) c.ran_out-in_default-field.ensures
    ∙ sym (ap call_at_of (read_at group_call a.s.now a.at (omega arith) ∙ described-short a.s.now a.at _ head-got' (omega arith) e))

pub overflow_add-result : goal.overflow_add-result
overflow_add-result c =
    let flag-got' : Bits c.in-Bits-field.flag ≡ fetched c.args.s.now (c.args.at + 36) 1 = sym c.in-Bits-field.is ∙ c.field-2.ensures in
    let a = c.args in
    let f = found a.s.now (a.at + 36) 1 _ flag-got' in
    omega arith

pub returns-then-flag-eq0 : goal.returns-then-flag-eq0
returns-then-flag-eq0 c =
    let head-got' : Bits c.in-Bits.head ≡ fetched c.args.s.now c.args.at 36 = sym c.in-Bits.is ∙ c.field.ensures in
    let flag-got' : Bits c.in-Bits-field.flag ≡ fetched c.args.s.now (c.args.at + 36) 1 = sym c.in-Bits-field.is ∙ c.field-2.ensures in
    let a = c.args in
    let h = c.in-Bits.head in
    ap₂ (λ (r : Refusal) (k : Call). record { refusal = r; call = k; at = a.at + 37 }) c.no_refusal.ensures
    (c.call_from.ensures ∙ ap (call_from_head h false) c.no_description.ensures)
    ∙ call-told h none (a.at + 37)
    ∙ sym (ap call_at_of (read_at group_call a.s.now a.at (omega arith) ∙ call_plain a.s.now a.at _ head-got' (omega arith) _ flag-got' c.if-flag-eq0.true))

pub overflow_add-at-2 : goal.overflow_add-at-2
overflow_add-at-2 c =
    let flag-got' : Bits c.in-Bits-field.flag ≡ fetched c.args.s.now (c.args.at + 36) 1 = sym c.in-Bits-field.is ∙ c.field-2.ensures in
    let a = c.args in
    let f = found a.s.now (a.at + 36) 1 _ flag-got' in
    omega arith

pub returns-then-d-ne0 : goal.returns-then-d-ne0
returns-then-d-ne0 c =
    let head-got' : Bits c.in-Bits.head ≡ fetched c.args.s.now c.args.at 36 = sym c.in-Bits.is ∙ c.field.ensures in
    let flag-got' : Bits c.in-Bits-field.flag ≡ fetched c.args.s.now (c.args.at + 36) 1 = sym c.in-Bits-field.is ∙ c.field-2.ensures in
    let a = c.args in
    c.refused_call-then-d-ne0.ensures
    ∙ described-refused c.in-Bits.head _ ((format description).read a.s.now (a.at + 37)) c.read_description-d.ensures c.if-d-ne0.true
    ∙ sym (ap call_at_of (read_at group_call a.s.now a.at (omega (arith, c.if-s-gt-LONGEST.false)) ∙ call-described a.s.now a.at _ head-got' (omega arith) _ flag-got' c.if-flag-eq0.false))

pub returns : goal.returns
returns c =
    let head-got' : Bits c.in-Bits.head ≡ fetched c.args.s.now c.args.at 36 = sym c.in-Bits.is ∙ c.field.ensures in
    let flag-got' : Bits c.in-Bits-field.flag ≡ fetched c.args.s.now (c.args.at + 36) 1 = sym c.in-Bits-field.is ∙ c.field-2.ensures in
    let a = c.args in
    let d = c.read_description-d.result in
    ap₂ (λ (r : Refusal) (k : Call). record { refusal = r; call = k; at = d.at }) c.no_refusal-2.ensures c.call_from-2.ensures
    ∙ described-told c.in-Bits.head d ((format description).read a.s.now (a.at + 37)) (description-grounded a.s.now (a.at + 37)) c.read_description-d.ensures c.if-d-ne0.false
    ∙ sym (ap call_at_of (read_at group_call a.s.now a.at (omega (arith, c.if-s-gt-LONGEST.false)) ∙ call-described a.s.now a.at _ head-got' (omega arith) _ flag-got' c.if-flag-eq0.false))

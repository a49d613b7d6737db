-- `call::read_frequencies` meets its contract. Assumes nothing.
use mathlib.Core.Path.{◌≡◌, sym, ap, ◌∙◌}
use mathlib.Core.Bool.{true, false}
use Prim.Native.Nat.{◌+◌, ◌*◌}
use Rattle.bits.specs.Field.{fetched}
use Rattle.bits.specs.declared.Got.TheVariants.{Bits, Short}
use Rattle.csn1.specs.declared.Refusal.{Refusal}
use Rattle.csn1.specs.Format.{bad}
use Rattle.csn1.proofs.Reading.{found}
use Rattle.call.specs.Inner.{frequencies_at_of}
use Rattle.call.proofs.Reading.{frequencies-short, list-short, list_read, length-short, length-low, length_high, octets-short, octets-read}
use native.Mathlib.Omega.{arith}
use Rattle.call.proofs.read_frequencies.Goals as goal

pub returns-in_default : goal.returns-in_default
returns-in_default c =
    let a = c.args in
    let e : Short ≡ fetched a.s.now a.at 1 = sym c.in_default.is ∙ c.field.ensures in
    c.no_frequencies.ensures ∙ ap (λ (r : Refusal). frequencies_at_of (bad r)) c.ran_out.ensures
    ∙ sym (ap frequencies_at_of (frequencies-short a.s.now a.at e))

pub overflow_add-at : goal.overflow_add-at
overflow_add-at c =
    let branch_got' : Bits c.in-Bits.branch ≡ fetched c.args.s.now c.args.at 1 = sym c.in-Bits.is ∙ c.field.ensures in
    let a = c.args in
    let f = found a.s.now a.at 1 _ branch_got' in
    omega arith

pub overflow_add-at-in_default-field : goal.overflow_add-at-in_default-field
overflow_add-at-in_default-field c =
    let branch_got' : Bits c.in-Bits.branch ≡ fetched c.args.s.now c.args.at 1 = sym c.in-Bits.is ∙ c.field.ensures in
    let a = c.args in
    let f = found a.s.now a.at 1 _ branch_got' in
    omega arith

pub returns-in_default-field : goal.returns-in_default-field
returns-in_default-field c =
    let branch_got' : Bits c.in-Bits.branch ≡ fetched c.args.s.now c.args.at 1 = sym c.in-Bits.is ∙ c.field.ensures in
    let a = c.args in
    let e : Short ≡ fetched a.s.now (a.at + 1) 64 = sym c.in_default-field.is ∙ c.field-then-branch-ne0.ensures in
    c.no_frequencies-in_default-field.ensures ∙ ap (λ (r : Refusal). frequencies_at_of (bad r)) c.ran_out-in_default-field.ensures
    ∙ sym (ap frequencies_at_of (list-short a.s.now a.at _ branch_got' c.if-branch-ne0.true e))

pub overflow_add-result : goal.overflow_add-result
overflow_add-result c =
    let list-got' : Bits c.in-Bits-field.list ≡ fetched c.args.s.now (c.args.at + 1) 64 = sym c.in-Bits-field.is ∙ c.field-then-branch-ne0.ensures in
    let a = c.args in
    let f = found a.s.now (a.at + 1) 64 _ list-got' in
    omega arith

pub returns-then-branch-ne0 : goal.returns-then-branch-ne0
returns-then-branch-ne0 c =
    let branch_got' : Bits c.in-Bits.branch ≡ fetched c.args.s.now c.args.at 1 = sym c.in-Bits.is ∙ c.field.ensures in
    let list-got' : Bits c.in-Bits-field.list ≡ fetched c.args.s.now (c.args.at + 1) 64 = sym c.in-Bits-field.is ∙ c.field-then-branch-ne0.ensures in
    let a = c.args in
    ap (λ (r : Refusal). record { refusal = r; shortlist = true; length = 0; frequencies = c.in-Bits-field.list; at = a.at + 65 }) c.no_refusal.ensures
    ∙ sym (ap frequencies_at_of (list_read a.s.now a.at _ branch_got' c.if-branch-ne0.true _ list-got'))

pub overflow_add-at-2 : goal.overflow_add-at-2
overflow_add-at-2 c =
    let branch_got' : Bits c.in-Bits.branch ≡ fetched c.args.s.now c.args.at 1 = sym c.in-Bits.is ∙ c.field.ensures in
    let a = c.args in
    let f = found a.s.now a.at 1 _ branch_got' in
    omega arith

pub overflow_add-at-in_default-field-2 : goal.overflow_add-at-in_default-field-2
overflow_add-at-in_default-field-2 c =
    let branch_got' : Bits c.in-Bits.branch ≡ fetched c.args.s.now c.args.at 1 = sym c.in-Bits.is ∙ c.field.ensures in
    let a = c.args in
    let f = found a.s.now a.at 1 _ branch_got' in
    omega arith

pub returns-in_default-field-2 : goal.returns-in_default-field-2
returns-in_default-field-2 c =
    let branch_got' : Bits c.in-Bits.branch ≡ fetched c.args.s.now c.args.at 1 = sym c.in-Bits.is ∙ c.field.ensures in
    let a = c.args in
    let e : Short ≡ fetched a.s.now (a.at + 1) 8 = sym c.in_default-field-2.is ∙ c.field-2.ensures in
    c.no_frequencies-in_default-field-2.ensures ∙ ap (λ (r : Refusal). frequencies_at_of (bad r)) c.ran_out-in_default-field-2.ensures
    ∙ sym (ap frequencies_at_of (length-short a.s.now a.at _ branch_got' c.if-branch-ne0.false e))

pub returns-then-length-lt1 : goal.returns-then-length-lt1
returns-then-length-lt1 c =
    let branch_got' : Bits c.in-Bits.branch ≡ fetched c.args.s.now c.args.at 1 = sym c.in-Bits.is ∙ c.field.ensures in
    let length_got' : Bits c.in-Bits-field-2.length ≡ fetched c.args.s.now (c.args.at + 1) 8 = sym c.in-Bits-field-2.is ∙ c.field-2.ensures in
    let a = c.args in
    c.no_frequencies-then-length-lt1.ensures ∙ ap (λ (r : Refusal). frequencies_at_of (bad r)) c.ground.ensures
    ∙ sym (ap frequencies_at_of (length-low a.s.now a.at _ branch_got' c.if-branch-ne0.false _ length_got' (omega arith)))

pub returns-then-length-gt8 : goal.returns-then-length-gt8
returns-then-length-gt8 c =
    let branch_got' : Bits c.in-Bits.branch ≡ fetched c.args.s.now c.args.at 1 = sym c.in-Bits.is ∙ c.field.ensures in
    let length_got' : Bits c.in-Bits-field-2.length ≡ fetched c.args.s.now (c.args.at + 1) 8 = sym c.in-Bits-field-2.is ∙ c.field-2.ensures in
    let a = c.args in
    c.no_frequencies-then-length-gt8.ensures ∙ ap (λ (r : Refusal). frequencies_at_of (bad r)) c.ground-then-length-gt8.ensures
    ∙ sym (ap frequencies_at_of (length_high a.s.now a.at _ branch_got' c.if-branch-ne0.false _ length_got' (omega arith)))

pub overflow_add-at-3 : goal.overflow_add-at-3
overflow_add-at-3 c =
    let length_got' : Bits c.in-Bits-field-2.length ≡ fetched c.args.s.now (c.args.at + 1) 8 = sym c.in-Bits-field-2.is ∙ c.field-2.ensures in
    let a = c.args in
    let f = found a.s.now (a.at + 1) 8 _ length_got' in
    omega arith

pub overflow_add-at-in_default-field-3 : goal.overflow_add-at-in_default-field-3
overflow_add-at-in_default-field-3 c =
    let length_got' : Bits c.in-Bits-field-2.length ≡ fetched c.args.s.now (c.args.at + 1) 8 = sym c.in-Bits-field-2.is ∙ c.field-2.ensures in
    let a = c.args in
    let f = found a.s.now (a.at + 1) 8 _ length_got' in
    omega arith

pub returns-in_default-field-3 : goal.returns-in_default-field-3
returns-in_default-field-3 c =
    let branch_got' : Bits c.in-Bits.branch ≡ fetched c.args.s.now c.args.at 1 = sym c.in-Bits.is ∙ c.field.ensures in
    let length_got' : Bits c.in-Bits-field-2.length ≡ fetched c.args.s.now (c.args.at + 1) 8 = sym c.in-Bits-field-2.is ∙ c.field-2.ensures in
    let a = c.args in
    let e : Short ≡ fetched a.s.now (a.at + 9) (8 * c.in-Bits-field-2.length) = sym c.in_default-field-3.is ∙ c.field-3.ensures in
    c.no_frequencies-in_default-field-3.ensures ∙ ap (λ (r : Refusal). frequencies_at_of (bad r)) c.ran_out-in_default-field-3.ensures
    ∙ sym (ap frequencies_at_of (octets-short a.s.now a.at _ branch_got' c.if-branch-ne0.false _ length_got' (omega arith) (omega arith) e))

pub overflow_add-result-2 : goal.overflow_add-result-2
overflow_add-result-2 c =
    let length_got' : Bits c.in-Bits-field-2.length ≡ fetched c.args.s.now (c.args.at + 1) 8 = sym c.in-Bits-field-2.is ∙ c.field-2.ensures in
    let a = c.args in
    let f = found a.s.now (a.at + 1) 8 _ length_got' in
    omega arith

pub overflow_add-result-3 : goal.overflow_add-result-3
overflow_add-result-3 c =
    let octets-got' : Bits c.in-Bits-field-3.octets ≡ fetched c.args.s.now (c.args.at + 9) (8 * c.in-Bits-field-2.length) = sym c.in-Bits-field-3.is ∙ c.field-3.ensures in
    let a = c.args in
    let f = found a.s.now (a.at + 9) (8 * c.in-Bits-field-2.length) _ octets-got' in
    omega arith

pub returns : goal.returns
returns c =
    let branch_got' : Bits c.in-Bits.branch ≡ fetched c.args.s.now c.args.at 1 = sym c.in-Bits.is ∙ c.field.ensures in
    let length_got' : Bits c.in-Bits-field-2.length ≡ fetched c.args.s.now (c.args.at + 1) 8 = sym c.in-Bits-field-2.is ∙ c.field-2.ensures in
    let octets-got' : Bits c.in-Bits-field-3.octets ≡ fetched c.args.s.now (c.args.at + 9) (8 * c.in-Bits-field-2.length) = sym c.in-Bits-field-3.is ∙ c.field-3.ensures in
    let a = c.args in
    let n = c.in-Bits-field-2.length in
    ap (λ (r : Refusal). record { refusal = r; shortlist = false; length = n; frequencies = c.in-Bits-field-3.octets; at = a.at + 9 + 8 * n }) c.no_refusal-2.ensures
    ∙ sym (ap frequencies_at_of (octets-read a.s.now a.at _ branch_got' c.if-branch-ne0.false _ length_got' (omega arith) (omega arith) _ octets-got'))

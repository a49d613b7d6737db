-- `facch::pages::read_identity` meets its contract. Assumes nothing.
use mathlib.Core.Path.{◌≡◌, sym, ap, ◌∙◌}
use Prim.Native.Nat.{◌+◌, ◌-◌, ◌*◌, ◌≤◌}
use Rattle.bits.specs.Field.{fetched}
use Rattle.bits.specs.declared.Got.TheVariants.{Bits, Short}
use Rattle.csn1.specs.declared.Refusal.{Refusal}
use Rattle.csn1.specs.Format.{bad}
use Rattle.csn1.proofs.Reading.{found, found_lt}
use Rattle.facch.specs.Inner.{identity_at_of}
use Rattle.facch.proofs.Notices.{length-short, length-low, length_high, rest-short, first_short, identity-read}
use native.Mathlib.Omega.{arith}
use Rattle.facch.proofs.pages.read_identity.Goals as goal

told : (r : Refusal) (x : Refusal) → r ≡ x → identity_at_of (bad r) ≡ identity_at_of (bad x)
told r x e = ap (λ (y : Refusal). identity_at_of (bad y)) e

pub returns-in_default : goal.returns-in_default
returns-in_default c =
    let a = c.args in
    let e : Short ≡ fetched a.s.now a.at 8 = sym c.in_default.is ∙ c.field.ensures in
    c.refused_identity.ensures ∙ told _ _ c.ran_out.ensures ∙ sym (ap identity_at_of (length-short a.s.now a.at e))

pub returns-then-length-lt1 : goal.returns-then-length-lt1
returns-then-length-lt1 c =
    let size-got' : Bits c.in-Bits.length ≡ fetched c.args.s.now c.args.at 8 = sym c.in-Bits.is ∙ c.field.ensures in
    c.refused_identity-then-length-lt1.ensures ∙ told _ _ c.ground.ensures
    ∙ sym (ap identity_at_of (length-low c.args.s.now c.args.at c.in-Bits.length size-got' (omega arith)))

pub returns-then-length-gt9 : goal.returns-then-length-gt9
returns-then-length-gt9 c =
    let size-got' : Bits c.in-Bits.length ≡ fetched c.args.s.now c.args.at 8 = sym c.in-Bits.is ∙ c.field.ensures in
    c.refused_identity-then-length-gt9.ensures ∙ told _ _ c.ground-then-length-gt9.ensures
    ∙ sym (ap identity_at_of (length_high c.args.s.now c.args.at c.in-Bits.length size-got' (omega arith)))

pub overflow_add-at : goal.overflow_add-at
overflow_add-at c =
    let size-got' : Bits c.in-Bits.length ≡ fetched c.args.s.now c.args.at 8 = sym c.in-Bits.is ∙ c.field.ensures in
    let near' : c.args.at + 8 ≤ 32768 = omega (arith, (found c.args.s.now c.args.at 8 c.in-Bits.length size-got').within, c.requires) in
    omega (arith, near')

pub overflow_add-at-in_default-field : goal.overflow_add-at-in_default-field
overflow_add-at-in_default-field c =
    let size-got' : Bits c.in-Bits.length ≡ fetched c.args.s.now c.args.at 8 = sym c.in-Bits.is ∙ c.field.ensures in
    let near' : c.args.at + 8 ≤ 32768 = omega (arith, (found c.args.s.now c.args.at 8 c.in-Bits.length size-got').within, c.requires) in
    omega (arith, near')

pub returns-in_default-field : goal.returns-in_default-field
returns-in_default-field c =
    let size-got' : Bits c.in-Bits.length ≡ fetched c.args.s.now c.args.at 8 = sym c.in-Bits.is ∙ c.field.ensures in
    let e : Short ≡ fetched c.args.s.now (c.args.at + 16) (8 * (c.in-Bits.length - 1)) = sym c.in_default-field.is ∙ c.field-2.ensures in
    c.refused_identity-in_default-field.ensures ∙ told _ _ c.ran_out-in_default-field.ensures
    ∙ sym (ap identity_at_of (rest-short c.args.s.now c.args.at c.in-Bits.length size-got' (omega arith) (omega arith) e))

pub overflow_add-at-2 : goal.overflow_add-at-2
overflow_add-at-2 c =
    let size-got' : Bits c.in-Bits.length ≡ fetched c.args.s.now c.args.at 8 = sym c.in-Bits.is ∙ c.field.ensures in
    let near' : c.args.at + 8 ≤ 32768 = omega (arith, (found c.args.s.now c.args.at 8 c.in-Bits.length size-got').within, c.requires) in
    omega (arith, near')

pub overflow_add-at-in_default-field-2 : goal.overflow_add-at-in_default-field-2
overflow_add-at-in_default-field-2 c =
    let size-got' : Bits c.in-Bits.length ≡ fetched c.args.s.now c.args.at 8 = sym c.in-Bits.is ∙ c.field.ensures in
    let near' : c.args.at + 8 ≤ 32768 = omega (arith, (found c.args.s.now c.args.at 8 c.in-Bits.length size-got').within, c.requires) in
    omega (arith, near')

pub returns-in_default-field-2 : goal.returns-in_default-field-2
returns-in_default-field-2 c =
    let size-got' : Bits c.in-Bits.length ≡ fetched c.args.s.now c.args.at 8 = sym c.in-Bits.is ∙ c.field.ensures in
    let e : Short ≡ fetched c.args.s.now (c.args.at + 8) 8 = sym c.in_default-field-2.is ∙ c.field-3.ensures in
    c.refused_identity-in_default-field-2.ensures ∙ told _ _ c.ran_out-in_default-field-2.ensures
    ∙ sym (ap identity_at_of (first_short c.args.s.now c.args.at c.in-Bits.length size-got' (omega arith) (omega arith) e))

pub overflow_cast-result-2 : goal.overflow_cast-result-2
overflow_cast-result-2 c =
    let first-got' : Bits c.in-Bits-field-2.first ≡ fetched c.args.s.now (c.args.at + 8) 8 = sym c.in-Bits-field-2.is ∙ c.field-3.ensures in
    omega (arith, found_lt c.args.s.now (c.args.at + 8) 8 c.in-Bits-field-2.first first-got')

pub overflow_add-result : goal.overflow_add-result
overflow_add-result c =
    let size-got' : Bits c.in-Bits.length ≡ fetched c.args.s.now c.args.at 8 = sym c.in-Bits.is ∙ c.field.ensures in
    let near' : c.args.at + 8 ≤ 32768 = omega (arith, (found c.args.s.now c.args.at 8 c.in-Bits.length size-got').within, c.requires) in
    omega (arith, near')

pub overflow_add-result-2 : goal.overflow_add-result-2
overflow_add-result-2 c =
    let size-got' : Bits c.in-Bits.length ≡ fetched c.args.s.now c.args.at 8 = sym c.in-Bits.is ∙ c.field.ensures in
    let near' : c.args.at + 8 ≤ 32768 = omega (arith, (found c.args.s.now c.args.at 8 c.in-Bits.length size-got').within, c.requires) in
    omega (arith, near')

pub returns : goal.returns
returns c =
    let size-got' : Bits c.in-Bits.length ≡ fetched c.args.s.now c.args.at 8 = sym c.in-Bits.is ∙ c.field.ensures in
    let rest-got' : Bits c.in-Bits-field.rest ≡ fetched c.args.s.now (c.args.at + 16) (8 * (c.in-Bits.length - 1)) = sym c.in-Bits-field.is ∙ c.field-2.ensures in
    let first-got' : Bits c.in-Bits-field-2.first ≡ fetched c.args.s.now (c.args.at + 8) 8 = sym c.in-Bits-field-2.is ∙ c.field-3.ensures in
    let f = c.in-Bits-field-2.first in
    let o = c.in-Bits-field.rest in
    ap (λ (r : Refusal). record { refusal = r; length = c.in-Bits.length; first = f; rest = o; at = c.args.at + 16 + 8 * (c.in-Bits.length - 1) }) c.no_refusal.ensures
    ∙ sym (ap identity_at_of (identity-read c.args.s.now c.args.at c.in-Bits.length size-got' (omega arith) (omega arith) o f rest-got' first-got'))

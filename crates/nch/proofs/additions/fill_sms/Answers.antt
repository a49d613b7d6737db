-- `nch::additions::fill_sms` meets its contract. Assumes nothing.
use mathlib.Core.Path.{◌≡◌, refl, sym, ap, ap₂, ◌∙◌}
use Prim.Native.Nat.{ℕ, ◌+◌, ◌≤◌}
use lib.ListN.{length-set}
use Rattle.bits.specs.Field.{fetched}
use Rattle.bits.specs.declared.Got.TheVariants.{Bits, Short}
use Rattle.csn1.specs.declared.Refusal.{Refusal}
use Rattle.csn1.specs.Format.{ok, num, ◌⨟◌}
use Rattle.csn1.proofs.Reading.{found, found_lt, num-got, num-short}
use Rattle.csn1.proofs.Answers.{first-bad, then-bad, then_ok}
use Rattle.arrays.proofs.Zeroed.{opt-left-short, opt-left-none, opt-left-bad, opt-left-some}
use Rattle.nch.specs.Places.{sms_at}
use Rattle.nch.specs.Inner.{part_passed, sms_run}
use Rattle.nch.proofs.Filled7.{sms_stored}
use native.Mathlib.Omega.{arith}
use Rattle.nch.proofs.additions.fill_sms.Goals as goal

pub returns-in_default : goal.returns-in_default
returns-in_default c =
    let a = c.args in
    let e : Short ≡ fetched a.s.now a.at 1 = sym c.in_default.is ∙ c.field.ensures in
    opt-left-short (num 1 ⨟ num 1) part_passed sms_run sms_at a.s.now a.at a.numbers.now e _ c.ran_out.ensures _ c.no_part.ensures _

pub overflow_add-result : goal.overflow_add-result
overflow_add-result c =
    let flag-got' : Bits c.in-Bits.flag ≡ fetched c.args.s.now c.args.at 1 = sym c.in-Bits.is ∙ c.field.ensures in
    let flag-within' : c.args.at + 1 ≤ 32768 = omega (arith, (found c.args.s.now c.args.at 1 c.in-Bits.flag flag-got').within, c.requires.0) in
    omega (arith, flag-within')

pub returns-then-flag-eq0 : goal.returns-then-flag-eq0
returns-then-flag-eq0 c =
    let flag-got' : Bits c.in-Bits.flag ≡ fetched c.args.s.now c.args.at 1 = sym c.in-Bits.is ∙ c.field.ensures in
    let a = c.args in
    opt-left-none (num 1 ⨟ num 1) part_passed sms_run sms_at a.s.now a.at a.numbers.now _ flag-got' c.if-flag-eq0.true _
    (ap (λ (r : Refusal). record { refusal = r; at = a.at + 1 }) c.no_refusal.ensures) 3 refl c.requires.1.1

pub overflow_add-at : goal.overflow_add-at
overflow_add-at c =
    let flag-got' : Bits c.in-Bits.flag ≡ fetched c.args.s.now c.args.at 1 = sym c.in-Bits.is ∙ c.field.ensures in
    let flag-within' : c.args.at + 1 ≤ 32768 = omega (arith, (found c.args.s.now c.args.at 1 c.in-Bits.flag flag-got').within, c.requires.0) in
    omega (arith, flag-within')

pub overflow_add-at-in_default-field : goal.overflow_add-at-in_default-field
overflow_add-at-in_default-field c =
    let flag-got' : Bits c.in-Bits.flag ≡ fetched c.args.s.now c.args.at 1 = sym c.in-Bits.is ∙ c.field.ensures in
    let flag-within' : c.args.at + 1 ≤ 32768 = omega (arith, (found c.args.s.now c.args.at 1 c.in-Bits.flag flag-got').within, c.requires.0) in
    omega (arith, flag-within')

pub returns-in_default-field : goal.returns-in_default-field
returns-in_default-field c =
    let flag-got' : Bits c.in-Bits.flag ≡ fetched c.args.s.now c.args.at 1 = sym c.in-Bits.is ∙ c.field.ensures in
    let a = c.args in
    let e : Short ≡ fetched a.s.now (a.at + 1) 1 = sym c.in_default-field.is ∙ c.field-2.ensures in
    opt-left-bad (num 1 ⨟ num 1) part_passed sms_run sms_at a.s.now a.at a.numbers.now _ flag-got'
    c.if-flag-eq0.false _
    (first-bad (num 1) (num 1) a.s.now (a.at + 1) _ (num-short a.s.now (a.at + 1) 1 (omega arith) e)) _ c.ran_out-in_default-field.ensures _ c.no_part-in_default-field.ensures _

pub overflow_add-at-2 : goal.overflow_add-at-2
overflow_add-at-2 c =
    let flag-got' : Bits c.in-Bits.flag ≡ fetched c.args.s.now c.args.at 1 = sym c.in-Bits.is ∙ c.field.ensures in
    let flag-within' : c.args.at + 1 ≤ 32768 = omega (arith, (found c.args.s.now c.args.at 1 c.in-Bits.flag flag-got').within, c.requires.0) in
    omega (arith, flag-within')

pub overflow_add-at-in_default-field-2 : goal.overflow_add-at-in_default-field-2
overflow_add-at-in_default-field-2 c =
    let flag-got' : Bits c.in-Bits.flag ≡ fetched c.args.s.now c.args.at 1 = sym c.in-Bits.is ∙ c.field.ensures in
    let flag-within' : c.args.at + 1 ≤ 32768 = omega (arith, (found c.args.s.now c.args.at 1 c.in-Bits.flag flag-got').within, c.requires.0) in
    omega (arith, flag-within')

pub returns-in_default-field-2 : goal.returns-in_default-field-2
returns-in_default-field-2 c =
    let flag-got' : Bits c.in-Bits.flag ≡ fetched c.args.s.now c.args.at 1 = sym c.in-Bits.is ∙ c.field.ensures in
    let confidential-got' : Bits c.in-Bits-field.confidential ≡ fetched c.args.s.now (c.args.at + 1) 1 = sym c.in-Bits-field.is ∙ c.field-2.ensures in
    let confidential-read' : (num 1).read c.args.s.now (c.args.at + 1) ≡ ok c.in-Bits-field.confidential (c.args.at + 2) = let a = c.args in
    num-got a.s.now (a.at + 1) 1 _ confidential-got' ∙ ap (ok c.in-Bits-field.confidential) (omega arith) in
    let a = c.args in
    let e : Short ≡ fetched a.s.now (a.at + 2) 1 = sym c.in_default-field-2.is ∙ c.field-3.ensures in
    opt-left-bad (num 1 ⨟ num 1) part_passed sms_run sms_at a.s.now a.at a.numbers.now _ flag-got' c.if-flag-eq0.false _
    (then-bad (num 1) (num 1) a.s.now (a.at + 1) _ _ _ confidential-read' (num-short a.s.now (a.at + 2) 1 (omega arith) e))
    _ c.ran_out-in_default-field-2.ensures _ c.no_part-in_default-field-2.ensures _

pub bounds-numbers-104 : goal.bounds-numbers-104
bounds-numbers-104 c = simp length-set (omega arith)

pub bounds-numbers-105 : goal.bounds-numbers-105
bounds-numbers-105 c = simp length-set (omega arith)

pub overflow_add-result-2 : goal.overflow_add-result-2
overflow_add-result-2 c =
    let flag-got' : Bits c.in-Bits.flag ≡ fetched c.args.s.now c.args.at 1 = sym c.in-Bits.is ∙ c.field.ensures in
    let flag-within' : c.args.at + 1 ≤ 32768 = omega (arith, (found c.args.s.now c.args.at 1 c.in-Bits.flag flag-got').within, c.requires.0) in
    omega (arith, flag-within')

pub shape_of-numbers : goal.shape_of-numbers
shape_of-numbers c = simp length-set

pub returns : goal.returns
returns c =
    let flag-got' : Bits c.in-Bits.flag ≡ fetched c.args.s.now c.args.at 1 = sym c.in-Bits.is ∙ c.field.ensures in
    let confidential-got' : Bits c.in-Bits-field.confidential ≡ fetched c.args.s.now (c.args.at + 1) 1 = sym c.in-Bits-field.is ∙ c.field-2.ensures in
    let private-got' : Bits c.in-Bits-field-2.private ≡ fetched c.args.s.now (c.args.at + 2) 1 = sym c.in-Bits-field-2.is ∙ c.field-3.ensures in
    let confidential-read' : (num 1).read c.args.s.now (c.args.at + 1) ≡ ok c.in-Bits-field.confidential (c.args.at + 2) = let a = c.args in
    num-got a.s.now (a.at + 1) 1 _ confidential-got' ∙ ap (ok c.in-Bits-field.confidential) (omega arith) in
    let a = c.args in
    opt-left-some (num 1 ⨟ num 1) part_passed sms_run sms_at a.s.now a.at a.numbers.now _ flag-got' c.if-flag-eq0.false _ _
    (then_ok (num 1) (num 1) a.s.now (a.at + 1) _ _ _ _ confidential-read' (num-got a.s.now (a.at + 2) 1 _ private-got')) _
    (ap₂ (λ (r : Refusal) (n : ℕ). record { refusal = r; at = n }) c.no_refusal-2.ensures (omega arith)) _
    (sms_stored a.numbers.now _ _ (found_lt _ _ 1 _ confidential-got') (found_lt _ _ 1 _ private-got'))

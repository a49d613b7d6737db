-- `facch::additions::read_count` meets its contract. Assumes nothing.
use mathlib.Core.Path.{◌≡◌, sym, ap, ap₂, ◌∙◌}
use mathlib.Core.Bool.{true, false}
use Prim.Native.Nat.{ℕ, ◌+◌, ◌≤◌}
use Rattle.bits.specs.Field.{fetched}
use Rattle.bits.specs.declared.Got.TheVariants.{Bits, Short}
use Rattle.csn1.specs.declared.Refusal.{Refusal}
use Rattle.csn1.specs.Format.{ok, bad, num, ◌⨟◌}
use Rattle.csn1.specs.Told.{is_one}
use Rattle.csn1.proofs.Reading.{found, found_lt, num-got, num-short, opt-short, opt_none}
use Rattle.csn1.proofs.Answers.{opt-bad, opt-ok, first-bad, then-bad, then_ok}
use Rattle.facch.specs.Inner.{count_at_of}
use native.Mathlib.Omega.{arith}
use Rattle.facch.proofs.additions.read_count.Goals as goal

pub returns-in_default : goal.returns-in_default
returns-in_default c =
    let a = c.args in
    let e : Short ≡ fetched a.s.now a.at 1 = sym c.in_default.is ∙ c.field.ensures in
    c.refused_count.ensures ∙ ap (λ (r : Refusal). count_at_of (bad r)) c.ran_out.ensures
    ∙ sym (ap count_at_of (opt-short (num 2 ⨟ num 1) a.s.now a.at e))

pub overflow_add-result : goal.overflow_add-result
overflow_add-result c =
    let flag-got' : Bits c.in-Bits.flag ≡ fetched c.args.s.now c.args.at 1 = sym c.in-Bits.is ∙ c.field.ensures in
    let flag-within' : c.args.at + 1 ≤ 32768 = let a = c.args in
    omega (arith, (found a.s.now a.at 1 c.in-Bits.flag flag-got').within, c.requires) in
    omega (arith, flag-within')

pub returns-then-flag-eq0 : goal.returns-then-flag-eq0
returns-then-flag-eq0 c =
    let flag-got' : Bits c.in-Bits.flag ≡ fetched c.args.s.now c.args.at 1 = sym c.in-Bits.is ∙ c.field.ensures in
    let a = c.args in
    ap (λ (r : Refusal). record { refusal = r; hasCount = false; cellcount = 0; b22 = false; at = a.at + 1 }) c.no_refusal.ensures
    ∙ sym (ap count_at_of (opt_none (num 2 ⨟ num 1) a.s.now a.at _ flag-got' c.if-flag-eq0.true))

pub overflow_add-at : goal.overflow_add-at
overflow_add-at c =
    let flag-got' : Bits c.in-Bits.flag ≡ fetched c.args.s.now c.args.at 1 = sym c.in-Bits.is ∙ c.field.ensures in
    let flag-within' : c.args.at + 1 ≤ 32768 = let a = c.args in
    omega (arith, (found a.s.now a.at 1 c.in-Bits.flag flag-got').within, c.requires) in
    omega (arith, flag-within')

pub overflow_add-at-in_default-field : goal.overflow_add-at-in_default-field
overflow_add-at-in_default-field c =
    let flag-got' : Bits c.in-Bits.flag ≡ fetched c.args.s.now c.args.at 1 = sym c.in-Bits.is ∙ c.field.ensures in
    let flag-within' : c.args.at + 1 ≤ 32768 = let a = c.args in
    omega (arith, (found a.s.now a.at 1 c.in-Bits.flag flag-got').within, c.requires) in
    omega (arith, flag-within')

pub returns-in_default-field : goal.returns-in_default-field
returns-in_default-field c =
    let flag-got' : Bits c.in-Bits.flag ≡ fetched c.args.s.now c.args.at 1 = sym c.in-Bits.is ∙ c.field.ensures in
    let a = c.args in
    let e : Short ≡ fetched a.s.now (a.at + 1) 2 = sym c.in_default-field.is ∙ c.field-2.ensures in
    c.refused_count-in_default-field.ensures ∙ ap (λ (r : Refusal). count_at_of (bad r)) c.ran_out-in_default-field.ensures
    ∙ sym (ap count_at_of (opt-bad (num 2 ⨟ num 1) a.s.now a.at _ flag-got' c.if-flag-eq0.false _
    (first-bad (num 2) (num 1) a.s.now (a.at + 1) _ (num-short a.s.now (a.at + 1) 2 (omega arith) e))))

pub overflow_add-at-2 : goal.overflow_add-at-2
overflow_add-at-2 c =
    let flag-got' : Bits c.in-Bits.flag ≡ fetched c.args.s.now c.args.at 1 = sym c.in-Bits.is ∙ c.field.ensures in
    let flag-within' : c.args.at + 1 ≤ 32768 = let a = c.args in
    omega (arith, (found a.s.now a.at 1 c.in-Bits.flag flag-got').within, c.requires) in
    omega (arith, flag-within')

pub overflow_add-at-in_default-field-2 : goal.overflow_add-at-in_default-field-2
overflow_add-at-in_default-field-2 c =
    let flag-got' : Bits c.in-Bits.flag ≡ fetched c.args.s.now c.args.at 1 = sym c.in-Bits.is ∙ c.field.ensures in
    let flag-within' : c.args.at + 1 ≤ 32768 = let a = c.args in
    omega (arith, (found a.s.now a.at 1 c.in-Bits.flag flag-got').within, c.requires) in
    omega (arith, flag-within')

pub returns-in_default-field-2 : goal.returns-in_default-field-2
returns-in_default-field-2 c =
    let flag-got' : Bits c.in-Bits.flag ≡ fetched c.args.s.now c.args.at 1 = sym c.in-Bits.is ∙ c.field.ensures in
    let count-got' : Bits c.in-Bits-field.cellcount ≡ fetched c.args.s.now (c.args.at + 1) 2 = sym c.in-Bits-field.is ∙ c.field-2.ensures in
    let count-read' : (num 2).read c.args.s.now (c.args.at + 1) ≡ ok c.in-Bits-field.cellcount (c.args.at + 3) = let a = c.args in
    num-got a.s.now (a.at + 1) 2 _ count-got' ∙ ap (ok c.in-Bits-field.cellcount) (omega arith) in
    let a = c.args in
    let e : Short ≡ fetched a.s.now (a.at + 3) 1 = sym c.in_default-field-2.is ∙ c.field-3.ensures in
    c.refused_count-in_default-field-2.ensures ∙ ap (λ (r : Refusal). count_at_of (bad r)) c.ran_out-in_default-field-2.ensures
    ∙ sym (ap count_at_of (opt-bad (num 2 ⨟ num 1) a.s.now a.at _ flag-got' c.if-flag-eq0.false _
    (then-bad (num 2) (num 1) a.s.now (a.at + 1) _ _ _ count-read' (num-short a.s.now (a.at + 3) 1 (omega arith) e))))

pub overflow_cast-result : goal.overflow_cast-result
overflow_cast-result c =
    let count-got' : Bits c.in-Bits-field.cellcount ≡ fetched c.args.s.now (c.args.at + 1) 2 = sym c.in-Bits-field.is ∙ c.field-2.ensures in
    let a = c.args in
    omega (arith, found_lt a.s.now (a.at + 1) 2 _ count-got')

pub overflow_add-result-2 : goal.overflow_add-result-2
overflow_add-result-2 c =
    let flag-got' : Bits c.in-Bits.flag ≡ fetched c.args.s.now c.args.at 1 = sym c.in-Bits.is ∙ c.field.ensures in
    let flag-within' : c.args.at + 1 ≤ 32768 = let a = c.args in
    omega (arith, (found a.s.now a.at 1 c.in-Bits.flag flag-got').within, c.requires) in
    omega (arith, flag-within')

pub returns : goal.returns
returns c =
    let flag-got' : Bits c.in-Bits.flag ≡ fetched c.args.s.now c.args.at 1 = sym c.in-Bits.is ∙ c.field.ensures in
    let b22-got' : Bits c.in-Bits-field-2.b22 ≡ fetched c.args.s.now (c.args.at + 3) 1 = sym c.in-Bits-field-2.is ∙ c.field-3.ensures in
    let count-got' : Bits c.in-Bits-field.cellcount ≡ fetched c.args.s.now (c.args.at + 1) 2 = sym c.in-Bits-field.is ∙ c.field-2.ensures in
    let count-read' : (num 2).read c.args.s.now (c.args.at + 1) ≡ ok c.in-Bits-field.cellcount (c.args.at + 3) = let a = c.args in
    num-got a.s.now (a.at + 1) 2 _ count-got' ∙ ap (ok c.in-Bits-field.cellcount) (omega arith) in
    let a = c.args in
    let y = c.in-Bits-field.cellcount in
    let z = c.in-Bits-field-2.b22 in
    ap₂ (λ (r : Refusal) (n : ℕ). record { refusal = r; hasCount = true; cellcount = y; b22 = is_one z; at = n }) c.no_refusal-2.ensures (omega arith)
    ∙ sym (ap count_at_of (opt-ok (num 2 ⨟ num 1) a.s.now a.at _ flag-got' c.if-flag-eq0.false _ _
    (then_ok (num 2) (num 1) a.s.now (a.at + 1) _ _ _ _ count-read' (num-got a.s.now (a.at + 3) 1 _ b22-got'))))

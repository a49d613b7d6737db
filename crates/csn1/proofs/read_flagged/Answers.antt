-- `csn1::read_flagged` meets its contract. Assumes nothing.
use mathlib.Core.Path.{◌≡◌, sym, ap, ◌∙◌}
use Prim.Native.Nat.{ℕ, ◌+◌}
use lib.ListN.{length}
use mathlib.Core.Bool.{true, false}
use mathlib.Core.Option.{some}
use borrow.Author.Tests.{lt-leb, le-leb}
use Rattle.bits.specs.Field.{fetched}
use Rattle.bits.specs.declared.Got.TheVariants.{Bits, Short}
use Rattle.csn1.specs.Format.{Res, bad, ok, ◌then◌, num}
use Rattle.csn1.specs.declared.Refusal.{Refusal}
use Rattle.csn1.specs.Told.{flagged_of}
use Rattle.csn1.proofs.Reading.{found, num-got, num-short, opt-short, opt_none, opt-some, flagged-at}
use native.Mathlib.Omega.{arith}
use Rattle.csn1.proofs.read_flagged.Goals as goal

pub returns-then-width-gt64 : goal.returns-then-width-gt64
returns-then-width-gt64 c =
    let a = c.args in
    c.no_number.ensures ∙ ap (λ (r : Refusal). flagged_of (bad r)) c.ran_out.ensures ∙ rw (lt-leb a.width 64 (omega arith))

pub returns-then-s-gt-LONGEST : goal.returns-then-s-gt-LONGEST
returns-then-s-gt-LONGEST c =
    let a = c.args in
    c.no_number-then-s-gt-LONGEST.ensures ∙ ap (λ (r : Refusal). flagged_of (bad r)) c.ran_out-then-s-gt-LONGEST.ensures
    ∙ rw (le-leb a.width 64 (omega arith), lt-leb (length a.s.now) 4096 (omega arith))

pub returns-in_default : goal.returns-in_default
returns-in_default c =
    let a = c.args in
    let e : Short ≡ fetched a.s.now a.at 1 = sym c.in_default.is ∙ c.field.ensures in
    c.no_number-in_default.ensures ∙ ap (λ (r : Refusal). flagged_of (bad r)) c.ran_out-in_default.ensures
    ∙ sym (ap flagged_of (flagged-at a.s.now a.at a.width (omega arith) (omega arith) ∙ opt-short (num a.width) a.s.now a.at e))

pub overflow_add-result : goal.overflow_add-result
overflow_add-result c =
    let a = c.args in
    let f = found a.s.now a.at 1 _ ((let flag-got' : Bits c.in-Bits.flag ≡ fetched c.args.s.now c.args.at 1 = sym c.in-Bits.is ∙ c.field.ensures in flag-got')) in
    omega arith

pub returns-then-flag-eq0 : goal.returns-then-flag-eq0
returns-then-flag-eq0 c =
    let a = c.args in
    ap (λ (r : Refusal). record { refusal = r; hasValue = false; value = 0; at = a.at + 1 }) c.no_refusal.ensures
    ∙ sym (ap flagged_of (flagged-at a.s.now a.at a.width (omega arith) (omega arith)
    ∙ opt_none (num a.width) a.s.now a.at _ ((let flag-got' : Bits c.in-Bits.flag ≡ fetched c.args.s.now c.args.at 1 = sym c.in-Bits.is ∙ c.field.ensures in flag-got')) c.if-flag-eq0.true))

pub overflow_add-at : goal.overflow_add-at
overflow_add-at c =
    let a = c.args in
    let f = found a.s.now a.at 1 _ ((let flag-got' : Bits c.in-Bits.flag ≡ fetched c.args.s.now c.args.at 1 = sym c.in-Bits.is ∙ c.field.ensures in flag-got')) in
    omega arith

pub overflow_add-at-in_default-field : goal.overflow_add-at-in_default-field
overflow_add-at-in_default-field c =
    let a = c.args in
    let f = found a.s.now a.at 1 _ ((let flag-got' : Bits c.in-Bits.flag ≡ fetched c.args.s.now c.args.at 1 = sym c.in-Bits.is ∙ c.field.ensures in flag-got')) in
    omega arith

pub returns-in_default-field : goal.returns-in_default-field
returns-in_default-field c =
    let a = c.args in
    let e : Short ≡ fetched a.s.now (a.at + 1) a.width = sym c.in_default-field.is ∙ c.field-2.ensures in
    c.no_number-in_default-field.ensures ∙ ap (λ (r : Refusal). flagged_of (bad r)) c.ran_out-in_default-field.ensures
    ∙ sym (ap flagged_of (flagged-at a.s.now a.at a.width (omega arith) (omega arith)
    ∙ opt-some (num a.width) a.s.now a.at _ ((let flag-got' : Bits c.in-Bits.flag ≡ fetched c.args.s.now c.args.at 1 = sym c.in-Bits.is ∙ c.field.ensures in flag-got')) c.if-flag-eq0.false
    ∙ ap (λ (x : Res ℕ). x then λ v q. ok (some v) q) (num-short a.s.now (a.at + 1) a.width (omega arith) e)))

pub overflow_add-result-2 : goal.overflow_add-result-2
overflow_add-result-2 c =
    let a = c.args in
    let f = found a.s.now (a.at + 1) a.width _
    ((let value-got' : Bits c.in-Bits-field.value ≡ fetched c.args.s.now (c.args.at + 1) c.args.width = sym c.in-Bits-field.is ∙ c.field-2.ensures in value-got')) in
    omega arith

pub overflow_add-result-3 : goal.overflow_add-result-3
overflow_add-result-3 c =
    let a = c.args in
    let f = found a.s.now (a.at + 1) a.width _
    ((let value-got' : Bits c.in-Bits-field.value ≡ fetched c.args.s.now (c.args.at + 1) c.args.width = sym c.in-Bits-field.is ∙ c.field-2.ensures in value-got')) in
    omega arith

pub returns : goal.returns
returns c =
    let a = c.args in
    ap (λ (r : Refusal). record { refusal = r; hasValue = true; value = c.in-Bits-field.value; at = a.at + 1 + a.width }) c.no_refusal-2.ensures
    ∙ sym (ap flagged_of (flagged-at a.s.now a.at a.width (omega arith) (omega arith)
    ∙ opt-some (num a.width) a.s.now a.at _ ((let flag-got' : Bits c.in-Bits.flag ≡ fetched c.args.s.now c.args.at 1 = sym c.in-Bits.is ∙ c.field.ensures in flag-got')) c.if-flag-eq0.false
    ∙ ap (λ (x : Res ℕ). x then λ v q. ok (some v) q)
    (num-got a.s.now (a.at + 1) a.width _
    ((let value-got' : Bits c.in-Bits-field.value ≡ fetched c.args.s.now (c.args.at + 1) c.args.width = sym c.in-Bits-field.is ∙ c.field-2.ensures in value-got')))))

-- `nch_words::calls::take_call` meets its contract. Assumes nothing.
use mathlib.Core.Path.{◌≡◌, ap, refl, ◌∙◌}
use Prim.Native.Nat.{ℕ, ◌+◌}
use Rattle.bits.specs.Field.{field}
use Rattle.arrays.proofs.Zeroed.{zeros-behind}
use Rattle.words.proofs.Taken.{was_false, was_true}
use Rattle.nch_words.specs.Inner.{head_numbers}
use Rattle.nch_words.proofs.OneCall.{reference-high, plain_put, described-unmet, described_put}
use native.Mathlib.Omega.{arith}
use Rattle.nch_words.proofs.calls.take_call.Goals as goal

pub returns-then-head-gt99999999 : goal.returns-then-head-gt99999999
returns-then-head-gt99999999 c =
    let head-got' : c.part-head.result ≡ field c.args.s.now (c.args.at + 1) 36 = c.part-head.ensures c.args.s.now c.args.at c.requires.0.1 in
    let a = c.args in
    reference-high a.s.now (a.at + 1) _ head-got' a.place a.numbers.now c.if-head-gt99999999.true _ c.no_one.ensures _

pub returns-then-part-eq0 : goal.returns-then-part-eq0
returns-then-part-eq0 c =
    let head-got' : c.part-head.result ≡ field c.args.s.now (c.args.at + 1) 36 = c.part-head.ensures c.args.s.now c.args.at c.requires.0.1 in
    let flag-got' : c.part.result ≡ field c.args.s.now (c.args.at + 1 + 36) 1 = c.part.ensures c.args.s.now c.args.at c.requires.0.1 ∙ ap (λ (z : ℕ). field c.args.s.now z 1) (omega arith) in
    let a = c.args in
    let zs = zeros-behind a.numbers.now _ a.place 5 (head_numbers c.part-head.result) c.requires.1.1 c.put_head.ensures refl in
    plain_put a.s.now (a.at + 1) _ head-got' a.place a.numbers.now (omega arith) _ flag-got' _ c.put_head.ensures c.if-part-eq0.true zs _ (omega arith)

pub take_description-d-requires : goal.take_description-d-requires
take_description-d-requires c =
    let a = c.args in
    let d = c.part-2.ensures a.s.now a.at c.requires.0.1 in
    let zs = zeros-behind a.numbers.now _ a.place 5 (head_numbers c.part-head.result) c.requires.1.1 c.put_head.ensures refl in
    (((c.requires.0.0.0, omega (arith, c.requires.0.0.1)), d), (omega (arith, c.put_head.auto.numbers, c.requires.1.0), zs))

pub returns-then-not-d : goal.returns-then-not-d
returns-then-not-d c =
    let head-got' : c.part-head.result ≡ field c.args.s.now (c.args.at + 1) 36 = c.part-head.ensures c.args.s.now c.args.at c.requires.0.1 in
    let flag-got' : c.part.result ≡ field c.args.s.now (c.args.at + 1 + 36) 1 = c.part.ensures c.args.s.now c.args.at c.requires.0.1 ∙ ap (λ (z : ℕ). field c.args.s.now z 1) (omega arith) in
    let a = c.args in
    described-unmet a.s.now (a.at + 1) _ head-got' a.place a.numbers.now (omega arith) _ flag-got' _
    c.put_head.ensures c.if-part-eq0.false
    c.take_description-d.result _ (omega arith) _ c.take_description-d.ensures (was_false _ c.if-not-d.true) _ c.no_one-then-not-d.ensures

pub returns : goal.returns
returns c =
    let head-got' : c.part-head.result ≡ field c.args.s.now (c.args.at + 1) 36 = c.part-head.ensures c.args.s.now c.args.at c.requires.0.1 in
    let flag-got' : c.part.result ≡ field c.args.s.now (c.args.at + 1 + 36) 1 = c.part.ensures c.args.s.now c.args.at c.requires.0.1 ∙ ap (λ (z : ℕ). field c.args.s.now z 1) (omega arith) in
    let a = c.args in
    described_put a.s.now (a.at + 1) _ head-got' a.place a.numbers.now (omega arith) _ flag-got' _
    c.put_head.ensures c.if-part-eq0.false
    c.take_description-d.result _ (omega arith) _ c.take_description-d.ensures (was_true _ c.if-not-d.false)

-- `words::take_from` meets its contract. Assumes nothing.
use mathlib.Core.Path.{◌≡◌, ap, ◌∙◌}
use Prim.Native.Nat.{◌+◌}
use Rattle.bits.specs.Field.{field}
use mathlib.Core.Bool.{false}
use Rattle.call.specs.Inner.{call_from_head}
use Rattle.words.proofs.Windows.{part-first}
use Rattle.words.proofs.Taken.{was_false, was_true, reference-high, plain-taken, described-unmet, described-taken}
use native.Mathlib.Omega.{arith}
use Rattle.words.proofs.take_from.Goals as goal

pub returns-then-head-gt99999999 : goal.returns-then-head-gt99999999
returns-then-head-gt99999999 c =
    let head-got' : c.part-head.result ≡ field c.args.s.now c.args.at 36 = part-first _ 36 _ c.part-head.ensures c.args.s.now c.args.at c.at-x.ensures in
    c.no_call.ensures ∙ reference-high c.args.s.now c.args.at _ head-got' c.if-head-gt99999999.true

pub returns-then-part-eq0 : goal.returns-then-part-eq0
returns-then-part-eq0 c =
    let head-got' : c.part-head.result ≡ field c.args.s.now c.args.at 36 = part-first _ 36 _ c.part-head.ensures c.args.s.now c.args.at c.at-x.ensures in
    let flag-got' : c.part.result ≡ field c.args.s.now (c.args.at + 36) 1 = c.part.ensures c.args.s.now c.args.at c.at-x.ensures in
    let d = c.no_description.ensures in
    plain-taken c.args.s.now c.args.at _ head-got' (omega arith) _ flag-got' c.if-part-eq0.true
    _ (c.call_from.ensures ∙ ap (call_from_head c.part-head.result false) d) _ c.at.ensures

pub returns-then-not-d : goal.returns-then-not-d
returns-then-not-d c =
    let head-got' : c.part-head.result ≡ field c.args.s.now c.args.at 36 = part-first _ 36 _ c.part-head.ensures c.args.s.now c.args.at c.at-x.ensures in
    let flag-got' : c.part.result ≡ field c.args.s.now (c.args.at + 36) 1 = c.part.ensures c.args.s.now c.args.at c.at-x.ensures in
    c.no_call-then-not-d.ensures
    ∙ described-unmet c.args.s.now c.args.at _ head-got' (omega arith) _ flag-got' c.if-part-eq0.false
    _ c.take_description-d.ensures (was_false _ c.if-not-d.true)

pub returns : goal.returns
returns c =
    let head-got' : c.part-head.result ≡ field c.args.s.now c.args.at 36 = part-first _ 36 _ c.part-head.ensures c.args.s.now c.args.at c.at-x.ensures in
    let flag-got' : c.part.result ≡ field c.args.s.now (c.args.at + 36) 1 = c.part.ensures c.args.s.now c.args.at c.at-x.ensures in
    described-taken c.args.s.now c.args.at _ head-got' (omega arith) _ flag-got' c.if-part-eq0.false _ c.take_description-d.ensures
    (was_true _ c.if-not-d.false) _ c.call_from-2.ensures _ c.at-2.ensures

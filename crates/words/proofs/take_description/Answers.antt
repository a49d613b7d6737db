-- `words::take_description` meets its contract. Assumes nothing.
use mathlib.Core.Path.{◌≡◌, ◌∙◌}
use Prim.Native.Nat.{◌+◌}
use Rattle.bits.specs.Field.{field}
use Rattle.bits.proofs.Laws.{field_lt}
use Rattle.words.proofs.Windows.{part-first}
use Rattle.words.proofs.Taken.{was_false, was_true, hopping-differs, fixed_taken, hops-unmet, hops-taken}
use native.Mathlib.Omega.{arith}
use Rattle.words.proofs.take_description.Goals as goal

pub returns-then-channel-flag : goal.returns-then-channel-flag
returns-then-channel-flag c =
    let channel-got' : c.part-channel.result ≡ field c.args.s.now c.args.at 24 = part-first _ 24 _ c.part-channel.ensures c.args.s.now c.args.at c.at-x.ensures in
    let flag-got' : c.part-flag.result ≡ field c.args.s.now (c.args.at + 24) 1 = c.part-flag.ensures c.args.s.now c.args.at c.at-x.ensures in
    c.no_description.ensures ∙ hopping-differs c.args.s.now c.args.at _ _ channel-got' flag-got' c.if-channel-flag.true

pub overflow_cast-result : goal.overflow_cast-result
overflow_cast-result c =
    let channel-got' : c.part-channel.result ≡ field c.args.s.now c.args.at 24 = part-first _ 24 _ c.part-channel.ensures c.args.s.now c.args.at c.at-x.ensures in
    omega (arith, channel-got', field_lt c.args.s.now c.args.at 24)

pub returns-then-flag-eq0 : goal.returns-then-flag-eq0
returns-then-flag-eq0 c =
    let channel-got' : c.part-channel.result ≡ field c.args.s.now c.args.at 24 = part-first _ 24 _ c.part-channel.ensures c.args.s.now c.args.at c.at-x.ensures in
    let flag-got' : c.part-flag.result ≡ field c.args.s.now (c.args.at + 24) 1 = c.part-flag.ensures c.args.s.now c.args.at c.at-x.ensures in
    fixed_taken c.args.s.now c.args.at _ _ channel-got' flag-got' c.if-channel-flag.false c.if-flag-eq0.true

pub returns-then-not-f : goal.returns-then-not-f
returns-then-not-f c =
    let channel-got' : c.part-channel.result ≡ field c.args.s.now c.args.at 24 = part-first _ 24 _ c.part-channel.ensures c.args.s.now c.args.at c.at-x.ensures in
    let flag-got' : c.part-flag.result ≡ field c.args.s.now (c.args.at + 24) 1 = c.part-flag.ensures c.args.s.now c.args.at c.at-x.ensures in
    c.no_description-then-not-f.ensures
    ∙ hops-unmet c.args.s.now c.args.at _ _ channel-got' flag-got' c.if-channel-flag.false c.if-flag-eq0.false
    _ c.take_frequencies-f.ensures (was_false _ c.if-not-f.true)

pub overflow_cast-result-2 : goal.overflow_cast-result-2
overflow_cast-result-2 c =
    let channel-got' : c.part-channel.result ≡ field c.args.s.now c.args.at 24 = part-first _ 24 _ c.part-channel.ensures c.args.s.now c.args.at c.at-x.ensures in
    omega (arith, channel-got', field_lt c.args.s.now c.args.at 24)

pub returns : goal.returns
returns c =
    let channel-got' : c.part-channel.result ≡ field c.args.s.now c.args.at 24 = part-first _ 24 _ c.part-channel.ensures c.args.s.now c.args.at c.at-x.ensures in
    let flag-got' : c.part-flag.result ≡ field c.args.s.now (c.args.at + 24) 1 = c.part-flag.ensures c.args.s.now c.args.at c.at-x.ensures in
    hops-taken c.args.s.now c.args.at _ _ channel-got' flag-got' c.if-channel-flag.false c.if-flag-eq0.false
    _ c.take_frequencies-f.ensures (was_true _ c.if-not-f.false)

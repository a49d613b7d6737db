-- `words::take_frequencies` meets its contract. Assumes nothing.
use mathlib.Core.Path.{◌≡◌, ◌∙◌}
use Prim.Native.Nat.{◌+◌}
use Rattle.bits.specs.Field.{field}
use Rattle.words.proofs.Windows.{part-first}
use Rattle.words.proofs.Taken.{list-taken, length-low, length_high, allocation-taken}
use native.Mathlib.Omega.{arith}
use Rattle.words.proofs.take_frequencies.Goals as goal

pub returns-then-part-ne0 : goal.returns-then-part-ne0
returns-then-part-ne0 c =
    let branch_got' : c.part.result ≡ field c.args.s.now c.args.at 1 = part-first _ 1 _ c.part.ensures c.args.s.now c.args.at c.at-x.ensures in
    list-taken c.args.s.now c.args.at _ branch_got' c.if-part-ne0.true _ c.at-y.ensures

pub returns-then-length-lt1 : goal.returns-then-length-lt1
returns-then-length-lt1 c =
    let branch_got' : c.part.result ≡ field c.args.s.now c.args.at 1 = part-first _ 1 _ c.part.ensures c.args.s.now c.args.at c.at-x.ensures in
    let length_got' : c.part-length.result ≡ field c.args.s.now (c.args.at + 1) 8 = part-first _ 8 _ c.part-length.ensures c.args.s.now (c.args.at + 1) c.at-y.ensures in
    c.no_frequencies.ensures ∙ length-low c.args.s.now c.args.at _ branch_got' (omega arith) _ length_got' (omega arith)

pub returns-then-length-gt8 : goal.returns-then-length-gt8
returns-then-length-gt8 c =
    let branch_got' : c.part.result ≡ field c.args.s.now c.args.at 1 = part-first _ 1 _ c.part.ensures c.args.s.now c.args.at c.at-x.ensures in
    let length_got' : c.part-length.result ≡ field c.args.s.now (c.args.at + 1) 8 = part-first _ 8 _ c.part-length.ensures c.args.s.now (c.args.at + 1) c.at-y.ensures in
    c.no_frequencies-then-length-gt8.ensures ∙ length_high c.args.s.now c.args.at _ branch_got' (omega arith) _ length_got' (omega arith)

pub returns : goal.returns
returns c =
    let branch_got' : c.part.result ≡ field c.args.s.now c.args.at 1 = part-first _ 1 _ c.part.ensures c.args.s.now c.args.at c.at-x.ensures in
    let length_got' : c.part-length.result ≡ field c.args.s.now (c.args.at + 1) 8 = part-first _ 8 _ c.part-length.ensures c.args.s.now (c.args.at + 1) c.at-y.ensures in
    allocation-taken c.args.s.now c.args.at _ branch_got' (omega arith) _ length_got' (omega arith) (omega arith)
    _ (part-first _ _ _ c.part-2.ensures c.args.s.now (c.args.at + 9) c.at-z.ensures)

-- `nch_words::calls::take_frequencies` meets its contract. Assumes nothing.
use mathlib.Core.Path.{◌≡◌}
use Prim.Native.Nat.{◌+◌}
use lib.ListN.{length-set}
use Rattle.bits.specs.Field.{field}
use Rattle.words.proofs.Windows.{part-first, seen}
use Rattle.nch_words.proofs.OneCall.{list_put, length-low, length_high, allocation_put}
use native.Mathlib.Omega.{arith}
use Rattle.nch_words.proofs.calls.take_frequencies.Goals as goal

pub bounds-numbers-place-then-part-ne0 : goal.bounds-numbers-place-then-part-ne0
bounds-numbers-place-then-part-ne0 c = simp length-set (omega (arith, c.requires.1.0))

pub returns-then-part-ne0 : goal.returns-then-part-ne0
returns-then-part-ne0 c =
    let window' : c.at-x.result ≡ field c.args.s.now c.args.at 64 = seen c.at-x.ensures (omega (arith, c.requires.0.1)) c.args.s.now c.requires.0.0 in
    let branch_got' : c.part.result ≡ field c.args.s.now c.args.at 1 = part-first _ 1 _ c.part.ensures c.args.s.now c.args.at window' in
    list_put c.args.s.now c.args.at _ _ c.requires.1.1 _ branch_got' c.if-part-ne0.true _ (seen c.at.ensures (omega (arith, c.requires.0.1)) c.args.s.now c.requires.0.0)

pub returns-then-length-lt1 : goal.returns-then-length-lt1
returns-then-length-lt1 c =
    let window' : c.at-x.result ≡ field c.args.s.now c.args.at 64 = seen c.at-x.ensures (omega (arith, c.requires.0.1)) c.args.s.now c.requires.0.0 in
    let branch_got' : c.part.result ≡ field c.args.s.now c.args.at 1 = part-first _ 1 _ c.part.ensures c.args.s.now c.args.at window' in
    let length_got' : c.part-length.result ≡ field c.args.s.now (c.args.at + 1) 8 = c.part-length.ensures c.args.s.now c.args.at window' in
    length-low c.args.s.now c.args.at _ _ c.requires.1.1 _ branch_got' (omega arith) _ length_got' (omega arith) _ c.no_part.ensures _

pub returns-then-length-gt8 : goal.returns-then-length-gt8
returns-then-length-gt8 c =
    let window' : c.at-x.result ≡ field c.args.s.now c.args.at 64 = seen c.at-x.ensures (omega (arith, c.requires.0.1)) c.args.s.now c.requires.0.0 in
    let branch_got' : c.part.result ≡ field c.args.s.now c.args.at 1 = part-first _ 1 _ c.part.ensures c.args.s.now c.args.at window' in
    let length_got' : c.part-length.result ≡ field c.args.s.now (c.args.at + 1) 8 = c.part-length.ensures c.args.s.now c.args.at window' in
    length_high c.args.s.now c.args.at _ _ c.requires.1.1 _ branch_got' (omega arith) _ length_got' (omega arith) _ c.no_part-then-length-gt8.ensures _

pub bounds-numbers-place-3 : goal.bounds-numbers-place-3
bounds-numbers-place-3 c = simp length-set (omega (arith, c.requires.1.0))

pub returns : goal.returns
returns c =
    let window' : c.at-x.result ≡ field c.args.s.now c.args.at 64 = seen c.at-x.ensures (omega (arith, c.requires.0.1)) c.args.s.now c.requires.0.0 in
    let branch_got' : c.part.result ≡ field c.args.s.now c.args.at 1 = part-first _ 1 _ c.part.ensures c.args.s.now c.args.at window' in
    let length_got' : c.part-length.result ≡ field c.args.s.now (c.args.at + 1) 8 = c.part-length.ensures c.args.s.now c.args.at window' in
    let y = seen c.at-y.ensures (omega (arith, c.requires.0.1)) c.args.s.now c.requires.0.0 in
    allocation_put c.args.s.now c.args.at _ _ c.requires.1.1 _ branch_got' (omega arith) _ length_got' (omega arith) (omega arith)
    _ (part-first _ _ _ c.part-2.ensures c.args.s.now (c.args.at + 9) y)

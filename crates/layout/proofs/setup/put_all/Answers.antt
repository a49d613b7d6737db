-- `layout::setup::put_all` meets its contract. Assumes nothing.
use mathlib.Core.Path.{◌≡◌, sym, ap, ◌∙◌}
use Prim.Native.Nat.{◌<◌}
use Rattle.std.specs.Option.{unwrap_or}
use native.Mathlib.Omega.{arith}
use lib.ListN.{length, get_or}
use Rattle.arrays.specs.Runs.{stored}
use Rattle.arrays.proofs.Running.{stored-none, length-stored}
use Rattle.receiver.specs.Channels.{key_count}
use Rattle.csn1.specs.Told.{padded}
use Rattle.layout.proofs.Fresh.{length-places}
use Rattle.layout.proofs.Setting.{place_at, keys_next, keys_all}
use Rattle.layout.proofs.setup.put_all.Goals as goal

pub loop-i-init : goal.loop-i-init
loop-i-init c = sym (stored-none _ c.args.at)

pub put_u32-requires : goal.put_u32-requires
put_u32-requires c =
    let l = c.loop-i in
    omega (arith, ap length l.invariant ∙ length-stored _ c.args.at _, c.requires, c.loop-i-test.true)

pub loop-i-preserved : goal.loop-i-preserved
loop-i-preserved c =
    let l = c.loop-i in
    let i = l.i in
    let a = c.args in
    let ks = padded a.unused key_count a.numbers.now in
    let low : i < key_count = c.loop-i-test.true in
    let k = c.unwrap_or-x.result in
    let e : k ≡ get_or ks i 0 =
    c.unwrap_or-x.ensures ∙ ap (λ o. unwrap_or o a.unused) c.copied.ensures ∙ c.get.ensures.lookup.4 (omega arith) a.unused ∙ place_at a.unused key_count a.numbers.now i low
    in
    (c.put_u32.ensures ∙ keys_next _ l.b a.at ks i k (omega (arith, low, length-places a.unused key_count a.numbers.now)) e l.invariant)

pub shape_of-b : goal.shape_of-b
shape_of-b c = ap length c.loop-i.invariant ∙ length-stored _ c.args.at _

pub returns : goal.returns
returns c =
    let l = c.loop-i in
    let a = c.args in
    let ks = padded a.unused key_count a.numbers.now in
    l.invariant ∙ ap (stored _ a.at) (keys_all ks l.i (omega (arith, length-places a.unused key_count a.numbers.now, c.loop-i-test.false)))

-- `bits::put_octets` meets its contract. Assumes nothing.
use mathlib.Core.Path.{refl, ap, ◌∙◌}
use Prim.Native.Nat.{◌+◌, ◌*◌, ◌/◌}
use native.Mathlib.Nat.{mod-lt}
use lib.ListN.{length}
use lib.Pow.{pow_pos}
use Rattle.bits.specs.Field.{set_field}
use Rattle.bits.proofs.Laws.{length-set_field}
use Rattle.bits.proofs.Octets.{merge, one_shl, put_step, put_done}
use native.Mathlib.Omega.{arith}
use Rattle.bits.proofs.put_octets.Goals as goal

pub loop-done-init : goal.loop-done-init
unfolding set_field
loop-done-init c = (omega arith, refl)

pub nonzero_rem-part : goal.nonzero_rem-part
nonzero_rem-part c = omega (arith, one_shl c.least-take.result (omega arith), pow_pos c.least-take.result)

pub bounds-buf-i : goal.bounds-buf-i
bounds-buf-i c =
    let l = ap length c.loop-done.invariant.1 ∙ length-set_field _ _ _ _ in omega arith

pub merged-requires : goal.merged-requires
merged-requires c =
    (omega arith, rw (one_shl c.least-take.result (omega arith)) (mod-lt _ (pow_pos c.least-take.result)))

pub bounds-buf-i-in-loop-done : goal.bounds-buf-i-in-loop-done
bounds-buf-i-in-loop-done c =
    let l = ap length c.loop-done.invariant.1 ∙ length-set_field _ _ _ _ in omega arith

pub loop-done-preserved : goal.loop-done-preserved
unfolding merge
loop-done-preserved c =
    let a = c.args in
    let l = c.loop-done in
    let t = c.least-take.result in
    let i = a.first + (a.skip + l.done) / 8 in
    let m = ap length l.invariant.1 ∙ length-set_field _ _ _ _ in (
      omega arith,
      put_step a.buf.now l.buf (a.first * 8 + a.skip) a.width a.v l.done t i _ c.merged.result (omega arith) (omega arith) l.invariant.1 (omega arith) (omega arith) (omega arith) c.merged.ensures,
    )

pub shape_of-buf : goal.shape_of-buf
shape_of-buf c = ap length c.loop-done.invariant.1 ∙ length-set_field _ _ _ _

pub returns : goal.returns
returns c =
    let a = c.args in
    let l = c.loop-done in
    put_done a.buf.now l.buf (a.first * 8 + a.skip) a.width a.v l.done (omega arith) l.invariant.1

-- `layout::sweep::sweep_all` meets its contract. Assumes nothing.
use mathlib.Core.Path.{◌≡◌, ◌∙◌}
use Prim.Native.Nat.{◌+◌, ◌-◌, ◌*◌}
use native.Mathlib.Omega.{arith}
use Rattle.receiver.specs.Channels.{channels, key_count}
use Rattle.layout.proofs.Runs.{sweeping_none, sweeping_few, sweeping_length, whole, swept-said, sweeping_group}
use Rattle.layout.proofs.sweep.sweep_all.Goals as goal

pub loop-g-init : goal.loop-g-init
loop-g-init c = sweeping_none _ _ _ _ _ _

pub sweep_group-lost-requires : goal.sweep_group-lost-requires
sweep_group-lost-requires c =
    let l = c.loop-g in
    let f = sweeping_few l.invariant in
    (sweeping_length l.invariant ∙ c.requires, (omega arith, (omega arith, (omega (arith, f.0), omega (arith, f.1)))))

pub loop-g-preserved : goal.loop-g-preserved
loop-g-preserved c =
    let l = c.loop-g in
    let a = c.args in
    let e : channels * (8 * l.g) + channels * 8 ≡ channels * (8 * (l.g + 1)) = omega arith in
    let more = sweeping_group a.tick a.rule a.b.now c.requires l.invariant (channels * 8) _ _ _ (omega arith) c.sweep_group-lost.ensures in
    rw e at more

pub sweep_group-requires : goal.sweep_group-requires
sweep_group-requires c =
    let l = c.loop-g in
    let f = sweeping_few l.invariant in
    (sweeping_length l.invariant ∙ c.requires, (omega arith, (omega arith, (omega (arith, f.0), omega (arith, f.1)))))

pub shape_of-b : goal.shape_of-b
shape_of-b c = c.sweep_group.auto.b ∙ sweeping_length c.loop-g.invariant

pub returns : goal.returns
returns c =
    let l = c.loop-g in
    let a = c.args in
    let e : 8 * l.g ≡ whole = omega arith in
    let all = sweeping_group a.tick a.rule a.b.now c.requires (rw e at l.invariant) (channels * (key_count - whole)) _ _ _ (omega arith) c.sweep_group.ensures in
    swept-said a.tick a.rule a.b.now all

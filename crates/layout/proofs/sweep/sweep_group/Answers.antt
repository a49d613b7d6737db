-- `layout::sweep::sweep_group` meets its contract. Assumes nothing.
use mathlib.Core.Path.{◌≡◌, ◌∙◌}
use Prim.Native.Nat.{◌*◌}
use native.Mathlib.Omega.{arith}
use Rattle.receiver.specs.Channels.{channels}
use Rattle.layout.proofs.Runs.{sweeping_none, sweeping_few, sweeping_length, sweeping_key, run-said, group_empty}
use Rattle.layout.proofs.sweep.sweep_group.Goals as goal

pub returns-then-quiet : goal.returns-then-quiet
returns-then-quiet c =
    let a = c.args in
    group_empty a.tick a.rule (channels * a.from) (channels * a.n) a.b.now a.expired a.dropped (omega arith) (c.quiet.ensures c.if-quiet.true)

pub loop-k-init : goal.loop-k-init
loop-k-init c = sweeping_none _ _ _ _ _ _

pub sweep_key-lost-requires : goal.sweep_key-lost-requires
sweep_key-lost-requires c =
    let l = c.loop-k in
    let f = sweeping_few l.invariant in
    (sweeping_length l.invariant ∙ c.requires.0, (omega arith, (omega (arith, f.0), omega (arith, f.1))))

pub loop-k-preserved : goal.loop-k-preserved
loop-k-preserved c =
    let l = c.loop-k in
    let a = c.args in
    sweeping_key a.tick a.rule a.from a.b.now a.expired a.dropped l.k l.invariant c.requires.0 (omega arith) _ _ _ c.sweep_key-lost.ensures

pub shape_of-b : goal.shape_of-b
shape_of-b c = sweeping_length c.loop-k.invariant

pub returns : goal.returns
returns c =
    let a = c.args in
    let l = c.loop-k in
    let e : l.k ≡ a.n = omega arith in
    run-said a.tick a.rule (channels * a.from) (channels * a.n) a.b.now a.expired a.dropped l.b l.expired l.dropped (rw e at l.invariant)

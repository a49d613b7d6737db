-- `layout::sweep::sweep_key` meets its contract. Assumes nothing.
use mathlib.Core.Path.{◌≡◌, sym, ap, ◌∙◌}
use Prim.Native.Nat.{ℕ, ◌*◌}
use native.Mathlib.Omega.{arith}
use Rattle.receiver.specs.Channels.{channels, place_on, side_of, by_number_of}
use Rattle.layout.proofs.Sweeps.{timer-by}
use Rattle.layout.proofs.Runs.{sweeping_none, sweeping_few, sweeping_length, sweeping_timer, sweeping_next, run-said}
use Rattle.layout.proofs.sweep.sweep_key.Goals as goal

pub loop-ch-init : goal.loop-ch-init
loop-ch-init c = sweeping_none _ _ _ _ _ _

pub timer_of-requires : goal.timer_of-requires
timer_of-requires c = tt

pub sweep_place-lost-requires : goal.sweep_place-lost-requires
sweep_place-lost-requires c =
    let a = c.args in
    let l = c.loop-ch in
    let f = sweeping_few l.invariant in
    let s : l.ch ≡ side_of (place_on a.key l.ch) = omega arith in
    let t = c.timer_of.ensures ∙ ap (λ (n : ℕ). by_number_of n c.u32_at-t3206.result c.u32_at-t3208.result c.u32_at-t3210.result) s in (
      sweeping_length l.invariant ∙ c.requires.0,
      (
        omega arith,
        (
          timer-by a.b.now (place_on a.key l.ch) _ _ _ _ c.u32_at-t3206.ensures c.u32_at-t3208.ensures c.u32_at-t3210.ensures t
              ∙ sym (sweeping_timer l.invariant (place_on a.key l.ch) (omega arith)),
          (c.spared.ensures, (omega (arith, f.0), omega (arith, f.1))),
        ),
      ),
    )

pub loop-ch-preserved : goal.loop-ch-preserved
loop-ch-preserved c =
    let l = c.loop-ch in
    sweeping_next l.invariant c.requires.0 (omega arith) c.sweep_place-lost.ensures

pub shape_of-b : goal.shape_of-b
shape_of-b c = sweeping_length c.loop-ch.invariant

pub returns : goal.returns
returns c =
    let a = c.args in
    let l = c.loop-ch in
    let e : l.ch ≡ channels = omega arith in
    run-said a.tick a.rule (channels * a.key) channels a.b.now a.expired a.dropped l.b l.expired l.dropped (rw e at l.invariant)

-- `steps::sweep::sweep` meets its contract. Assumes nothing.
use Prim.Native.Nat.{◌<◌}
use lib.ListN.{length}
use Rattle.receiver.specs.Model.{empty_slot}
use Rattle.steps.proofs.Sweeping.{none_done, all_done, counts-low, one-stays, one-runs-out, one-taken}
use native.Mathlib.Omega.{arith}
use Rattle.steps.proofs.sweep.sweep.Goals as goal
use Rattle.steps.proofs.sweep.sweep.Goals.{in-Stays, in-RanOut, in-Taken}

pub loop-i-init : goal.loop-i-init
loop-i-init c = (c.empty_slot-e.ensures, none_done _ _ _)

pub overflow_add-expired : goal.overflow_add-expired
overflow_add-expired c =
    let l = c.loop-i in
    omega (arith, (counts-low _ _ _ l.i l.r l.expired l.dropped l.invariant.1 empty_slot).0)

pub overflow_add-dropped : goal.overflow_add-dropped
overflow_add-dropped c =
    let l = c.loop-i in
    omega (arith, (counts-low _ _ _ l.i l.r l.expired l.dropped l.invariant.1 empty_slot).1)

pub loop-i-preserved : goal.loop-i-preserved
loop-i-preserved c =
    let l = c.loop-i in
    let k = c.timer_at-timer.ensures in
    let g = c.fate_of.ensures in
    let lt : l.i < length c.args.r.slots = omega arith in (
      l.invariant.0,
      elim c.match-fate_of.branch [
        | in-Stays w ↦ rw (w.r-is, w.expired-is, w.dropped-is) (one-stays _ _ _ l.i l.r l.expired l.dropped l.invariant.1 _ _ k _ g lt w.in-Stays.is)
        | in-RanOut w ↦ rw (w.r-is, w.expired-is, w.dropped-is) (one-runs-out _ _ _ l.i l.r l.expired l.dropped l.invariant.1 _ _ k _ g lt _ l.invariant.0 w.in-RanOut.is)
        | in-Taken w ↦ rw (w.r-is, w.expired-is, w.dropped-is) (one-taken _ _ _ l.i l.r l.expired l.dropped l.invariant.1 _ _ k _ g lt _ l.invariant.0 w.in-Taken.is)
      ],
    )

pub returns : goal.returns
returns c =
    let l = c.loop-i in
    all_done _ _ _ l.i l.r l.expired l.dropped l.invariant.1 (omega arith)

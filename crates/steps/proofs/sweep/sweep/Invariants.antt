-- What the loops of `steps::sweep::sweep` keep.
use mathlib.Core.Path.{◌≡◌}
use Rattle.receiver.specs.Model.{empty_slot}
use Rattle.steps.proofs.Sweeping.{Done}
use Rattle.steps.proofs.sweep.sweep.Given as goal

abbrev pub invariant-loop-i : goal.invariant-loop-i
invariant-loop-i l = (l.e ≡ empty_slot) × Done l.initial.r l.now l.rule l.i l.r l.expired l.dropped

-- What the loop of `layout::sweep::sweep_all` keeps.
use Prim.Native.Nat.{◌*◌}
use Rattle.receiver.specs.Channels.{channels}
use Rattle.layout.proofs.Runs.{Sweeping}
use Rattle.layout.proofs.sweep.sweep_all.Given as goal

abbrev pub invariant-loop-g : goal.invariant-loop-g
invariant-loop-g l = Sweeping l.tick l.rule 0 l.initial.b 0 0 (channels * (8 * l.g)) l.b l.expired l.dropped

-- What the loop of `layout::sweep::sweep_group` keeps.
use Prim.Native.Nat.{◌*◌}
use Rattle.receiver.specs.Channels.{channels}
use Rattle.layout.proofs.Runs.{Sweeping}
use Rattle.layout.proofs.sweep.sweep_group.Given as goal

abbrev pub invariant-loop-k : goal.invariant-loop-k
invariant-loop-k l = Sweeping l.tick l.rule (channels * l.from) l.initial.b l.initial.expired l.initial.dropped (channels * l.k) l.b l.expired l.dropped

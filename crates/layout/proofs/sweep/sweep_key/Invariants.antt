-- What the loop of `layout::sweep::sweep_key` keeps.
use Prim.Native.Nat.{◌*◌}
use Rattle.receiver.specs.Channels.{channels}
use Rattle.layout.proofs.Runs.{Sweeping}
use Rattle.layout.proofs.sweep.sweep_key.Given as goal

abbrev pub invariant-loop-ch : goal.invariant-loop-ch
invariant-loop-ch l = Sweeping l.tick l.rule (channels * l.key) l.initial.b l.initial.expired l.initial.dropped l.ch l.b l.expired l.dropped

-- What the loops of `receiver::finding::find` keep, and why they end.
use Prim.Native.Nat.{◌-◌}
use Rattle.receiver.proofs.Halving.{Going}
use Rattle.receiver.proofs.finding.find.Given as goal

abbrev pub invariant-loop-start : goal.invariant-loop-start
invariant-loop-start l = Going l.keys l.key l.start l.end l.looks

abbrev pub decreases-loop-start : goal.decreases-loop-start
decreases-loop-start l = l.end - l.start

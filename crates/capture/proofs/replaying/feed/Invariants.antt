-- What the loops of `capture::replaying::feed` keep, and why they end.
use Rattle.std.proofs.Common.{◌-◌, length}
use Rattle.text.proofs.Lines.{line}
use Rattle.capture.proofs.Stepping.{Going}
use Rattle.capture.specs.Machine.{machine_of, fed_by}
use Rattle.capture.proofs.replaying.feed.Given as goal

abbrev pub invariant-loop-i : goal.invariant-loop-i
invariant-loop-i l = Going (fed_by (machine_of l.initial.held l.initial.kept l.initial.state) l.piece (line l.initial.out l.at))
    l.initial.kept l.initial.state l.initial.out l.piece l.kept l.state l.out l.held l.end l.i

abbrev pub decreases-loop-i : goal.decreases-loop-i
decreases-loop-i l = length l.piece - l.i

-- What the loops of `capture::mending::feed` keep, and why they end.
use Rattle.std.proofs.Common.{◌-◌, length}
use Rattle.capture.specs.Mending.{mending_of, mended_by}
use Rattle.capture.proofs.Mendings.{lines, MendGoing}
use Rattle.capture.proofs.mending.feed.Given as goal

abbrev pub invariant-loop-i : goal.invariant-loop-i
invariant-loop-i l = MendGoing (mended_by (mending_of l.initial.held l.initial.kept l.initial.state) l.piece (lines l.initial.copy l.copied l.initial.list l.listed))
    l.initial.copy l.initial.list l.piece l.kept l.state l.copy l.list l.held l.end l.left l.i

abbrev pub decreases-loop-i : goal.decreases-loop-i
decreases-loop-i l = length l.piece - l.i

-- What the loops of `trace::fields::side_by_side` keep, and why they end.
use Prim.Native.Nat.{◌-◌}
use lib.ListN.{length}
use Rattle.trace.proofs.Rows.{Side}
use Rattle.trace.proofs.fields.side_by_side.Given as goal

abbrev pub invariant-loop-i : goal.invariant-loop-i
invariant-loop-i l = Side l.kinds l.widths l.s l.first l.from l.initial.fields l.fields l.i l.at

abbrev pub decreases-loop-i : goal.decreases-loop-i
decreases-loop-i l = length l.widths - l.i

-- What the loops of `nch::lists::list_marks` keep, and why they end.
use Prim.Native.Nat.{◌-◌, ◌*◌}
use lib.ListN.{length}
use Rattle.nch.proofs.MarksKept.{KeptMarks}
use Rattle.nch.proofs.lists.list_marks.Given as goal

abbrev pub invariant-entries : goal.invariant-entries
invariant-entries l = KeptMarks l.s l.from l.initial.numbers l.numbers l.count l.at

abbrev pub decreases-entries : goal.decreases-entries
decreases-entries l = length l.s * 8 - l.at

-- What the loops of `nch::lists::list_reduceds` keep, and why they end.
use Rattle.nch.proofs.Reading6.{widths}
use Rattle.nch.proofs.ReducedsKept.{KeptReduceds}
use Prim.Native.Nat.{◌+◌, ◌-◌, ◌*◌}
use lib.ListN.{length}
use Rattle.csn1.proofs.Lists.{Fields}
use Rattle.nch.proofs.lists.list_reduceds.Given as goal

abbrev pub invariant-fields : goal.invariant-fields
invariant-fields l = Fields widths l.s (l.at + 1) l.parts l.k l.next

abbrev pub decreases-fields : goal.decreases-fields
decreases-fields l = 2 - l.k

abbrev pub invariant-entries : goal.invariant-entries
invariant-entries l = KeptReduceds l.s l.from l.initial.numbers l.numbers l.count l.at

abbrev pub decreases-entries : goal.decreases-entries
decreases-entries l = length l.s * 8 - l.at

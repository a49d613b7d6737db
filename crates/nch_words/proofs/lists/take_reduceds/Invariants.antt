-- What the loops of `nch_words::lists::take_reduceds` keep, and why they end.
use Prim.Native.Nat.{◌-◌, ◌≤◌}
use Rattle.nch.proofs.ReducedsKept.{KeptReduceds}
use Rattle.nch_words.proofs.lists.take_reduceds.Given as goal

abbrev pub invariant-entries : goal.invariant-entries
invariant-entries l = (l.at ≤ 159) × KeptReduceds l.s l.from l.initial.numbers l.numbers l.count l.at

abbrev pub decreases-entries : goal.decreases-entries
decreases-entries l = 160 - l.at

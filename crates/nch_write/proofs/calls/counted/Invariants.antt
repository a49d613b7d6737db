-- What the loops of `nch_write::calls::counted` keep, and why they end.
use Prim.Native.Nat.{◌-◌}
use Rattle.call.specs.Call.{ciphered}
use Rattle.nch.specs.Places.{most_calls}
use Rattle.nch.specs.Write.{is_described}
use Rattle.nch_write.proofs.Counting.{Counted}
use Rattle.nch_write.proofs.calls.counted.Given as goal

abbrev pub invariant-loop-i : goal.invariant-loop-i
invariant-loop-i l = Counted ciphered l.n l.calls l.coded l.i × Counted is_described l.n l.calls l.described l.i

abbrev pub decreases-loop-i : goal.decreases-loop-i
decreases-loop-i l = most_calls - l.i

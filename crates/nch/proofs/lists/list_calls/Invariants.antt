-- What the loops of `nch::lists::list_calls` keep, and why they end.
use Prim.Native.Nat.{◌-◌, ◌*◌}
use lib.ListN.{length}
use Rattle.nch.proofs.CallsKept.{CallsKept}
use Rattle.nch.proofs.lists.list_calls.Given as goal

abbrev pub invariant-entries : goal.invariant-entries
invariant-entries l = CallsKept l.s l.from l.initial.numbers l.numbers l.count l.ciphered l.described l.at

abbrev pub decreases-entries : goal.decreases-entries
decreases-entries l = length l.s * 8 - l.at

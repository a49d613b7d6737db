-- What the loops of `nch::lists::list_randoms` keep, and why they end.
use Prim.Native.Nat.{◌-◌, ◌*◌}
use lib.ListN.{length}
use Rattle.nch.proofs.RandomsKept.{KeptRandoms}
use Rattle.nch.proofs.lists.list_randoms.Given as goal

abbrev pub invariant-entries : goal.invariant-entries
invariant-entries l = KeptRandoms l.s l.from l.initial.numbers l.numbers l.count l.at

abbrev pub decreases-entries : goal.decreases-entries
decreases-entries l = length l.s * 8 - l.at

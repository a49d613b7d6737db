-- What the loops of `nch_words::lists::take_randoms` keep, and why they end.
use Prim.Native.Nat.{◌-◌}
use Rattle.nch_words.proofs.Listing.{Randoms}
use Rattle.nch_words.proofs.lists.take_randoms.Given as goal

abbrev pub invariant-entries : goal.invariant-entries
invariant-entries l = Randoms l.s l.from l.initial.numbers l.numbers l.count l.at

abbrev pub decreases-entries : goal.decreases-entries
decreases-entries l = 160 - l.at

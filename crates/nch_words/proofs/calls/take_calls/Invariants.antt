-- What the loops of `nch_words::calls::take_calls` keep, and why they end.
use Prim.Native.Nat.{◌-◌}
use Rattle.nch_words.proofs.Listing.{Calls}
use Rattle.nch_words.proofs.calls.take_calls.Given as goal

abbrev pub invariant-entries : goal.invariant-entries
invariant-entries l = Calls l.s l.from l.initial.numbers l.numbers l.count l.ciphered l.described l.at

abbrev pub decreases-entries : goal.decreases-entries
decreases-entries l = 160 - l.at

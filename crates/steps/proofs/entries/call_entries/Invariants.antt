-- What the loop of `steps::entries::call_entries` keeps.
use Rattle.receiver.proofs.MessageEntries.{CallsMade}
use Rattle.steps.proofs.entries.call_entries.Given as goal

abbrev pub invariant-loop-i : goal.invariant-loop-i
invariant-loop-i l = CallsMade l.fn.m l.items l.random l.mark l.i

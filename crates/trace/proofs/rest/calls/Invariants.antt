-- What the loops of `trace::rest::calls` keep, and why they end.
use Prim.Native.Nat.{◌*◌, ◌-◌}
use lib.ListN.{length}
use Rattle.call.specs.Call.{call_grammar}
use Rattle.trace.specs.Names.{call_given}
use Rattle.trace.specs.CallKinds.{call_kinds}
use Rattle.trace.proofs.Entries.{Going}
use Rattle.trace.proofs.rest.calls.Given as goal

abbrev pub invariant-entries : goal.invariant-entries
invariant-entries l = Going call_grammar call_kinds call_given l.s l.initial.u l.initial.fields l.u l.fields

abbrev pub decreases-entries : goal.decreases-entries
decreases-entries l = length l.s * 8 - l.u.at

-- What the loops of `trace::rest::marks` keep, and why they end.
use Prim.Native.Nat.{◌*◌, ◌-◌}
use lib.ListN.{length}
use Rattle.csn1.specs.Grammar.{number}
use Rattle.trace.specs.Names.{emergency_mark_given, emergency_mark}
use Rattle.trace.specs.Fields.{one}
use Rattle.trace.proofs.Entries.{Going}
use Rattle.trace.proofs.rest.marks.Given as goal

abbrev pub invariant-entries : goal.invariant-entries
invariant-entries l = Going (number 1) (one emergency_mark) emergency_mark_given l.s l.initial.u l.initial.fields l.u l.fields

abbrev pub decreases-entries : goal.decreases-entries
decreases-entries l = length l.s * 8 - l.u.at

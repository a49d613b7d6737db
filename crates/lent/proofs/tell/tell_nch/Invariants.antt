-- What the loops of `lent::tell::tell_nch` keep.
use mathlib.Core.List.{List}
use Prim.Native.Nat.{ℕ}
use Rattle.nch.specs.NotificationNumbers.{record_from}
use Rattle.lent.proofs.Messages.{ToldTo}
use Rattle.lent.proofs.tell.tell_nch.Given as goal

abbrev pub invariant-calls : goal.invariant-calls
invariant-calls l = ToldTo l.initial.b l.cell l.tick (record_from l.m) l.random l.mark l.i l.b

abbrev pub invariant-reduceds : goal.invariant-reduceds
invariant-reduceds here = (l : List ℕ)
    → ToldTo l here.cell here.tick (record_from here.m) here.initial.random here.mark here.initial.i here.initial.b → ToldTo l here.cell here.tick (record_from here.m) here.random here.mark here.i here.b

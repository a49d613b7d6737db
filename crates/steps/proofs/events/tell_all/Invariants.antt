-- What the loop of `steps::events::tell_all` keeps.
use lib.ListN.{take}
use Rattle.steps.proofs.Entering.{Entered}
use Rattle.steps.proofs.events.tell_all.Given as goal

abbrev pub invariant-loop-i : goal.invariant-loop-i
invariant-loop-i l = Entered l.initial.r l.ch l.now (take l.fn.e.count l.fn.e.items) l.told l.r l.i

-- `steps::entries::emergency_of_call` meets its contract. Assumes nothing.
use mathlib.Core.Bool.{false}
use native.Mathlib.Omega.{arith}
use Rattle.receiver.proofs.MessageEntries.{nth_past, nth-there}
use Rattle.steps.proofs.entries.emergency_of_call.Goals as goal
use Rattle.steps.proofs.entries.emergency_of_call.Goals.{else-c-via-then-c+then-k-m+else-k-lt4, else-c-via-then-c+else-k-m, else-c-via-else-c}

pub returns-then-k-lt4 : goal.returns-then-k-lt4
returns-then-k-lt4 c =
    let x = c.args in
    rw (c.if-c.true, nth-there x.k x.m.release7.markcount x.m.release7.marks false (omega arith) (omega arith))

pub returns-else-c : goal.returns-else-c
returns-else-c c =
    let x = c.args in
    elim c.else-c.branch [
      | else-c-via-then-c+then-k-m+else-k-lt4 w ↦ rw (w.if-c.true, nth_past x.k x.m.release7.markcount x.m.release7.marks (omega arith))
      | else-c-via-then-c+else-k-m w ↦ rw (w.if-c.true, nth_past x.k x.m.release7.markcount x.m.release7.marks (omega arith))
      | else-c-via-else-c w ↦ rw w.if-c.false
    ]

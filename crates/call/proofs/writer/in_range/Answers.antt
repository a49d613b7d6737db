-- `call::writer::in_range` meets its contract. Assumes nothing.
use borrow.Author.Tests.{not-true, not-false, lt-ltb, le-ltb}
use native.Mathlib.Omega.{arith}
use Rattle.call.specs.Write.{call_in_range}
use Rattle.call.proofs.writer.in_range.Goals as goal

pub returns-then-c-gt134217727 : goal.returns-then-c-gt134217727
unfolding call_in_range
returns-then-c-gt134217727 c = let a = c.args.c in rw (le-ltb a.reference 134217728 (omega arith))

pub returns-then-c-gt7 : goal.returns-then-c-gt7
unfolding call_in_range
returns-then-c-gt7 c = let a = c.args.c in rw (lt-ltb a.reference 134217728 (omega arith), le-ltb a.priority 8 (omega arith))

pub returns-then-c-gt15 : goal.returns-then-c-gt15
unfolding call_in_range
returns-then-c-gt15 c = let a = c.args.c in rw (lt-ltb a.reference 134217728 (omega arith), lt-ltb a.priority 8 (omega arith), le-ltb a.cipher 16 (omega arith))

pub returns-then-not-c : goal.returns-then-not-c
unfolding call_in_range
returns-then-not-c c = let a = c.args.c in rw
    (lt-ltb a.reference 134217728 (omega arith), lt-ltb a.priority 8 (omega arith), lt-ltb a.cipher 16 (omega arith), not-true a.hasDescription c.if-not-c.true) c.description_is_zero.ensures

pub returns-then-d-gt16777215 : goal.returns-then-d-gt16777215
unfolding call_in_range
returns-then-d-gt16777215 c = let a =
    c.args.c in rw (
      lt-ltb a.reference 134217728 (omega arith),
      lt-ltb a.priority 8 (omega arith),
      lt-ltb a.cipher 16
          (omega arith),
      not-false a.hasDescription c.if-not-c.false,
      le-ltb a.description.channel 16777216 (omega arith),
    )

pub returns : goal.returns
unfolding call_in_range
returns c = let a = c.args.c in rw (
  lt-ltb a.reference 134217728 (omega arith),
  lt-ltb a.priority 8 (omega arith),
  lt-ltb a.cipher 16
      (omega arith),
  not-false a.hasDescription c.if-not-c.false,
  lt-ltb a.description.channel 16777216 (omega arith),
) c.frequencies_in_range.ensures

-- `call::writer::has_room` meets its contract. Assumes nothing.
use Prim.Native.Nat.{◌+◌, ◌*◌}
use borrow.Author.Tests.{le-leb, lt-leb}
use Rattle.call.proofs.Put.{room-left}
use native.Mathlib.Omega.{arith}
use Rattle.call.proofs.writer.has_room.Goals as goal

pub returns-then-n-gt-LONGEST : goal.returns-then-n-gt-LONGEST
returns-then-n-gt-LONGEST c = let a = c.args in rw (lt-leb a.n 4096 c.if-n-gt-LONGEST.true)

pub returns-then-n-at : goal.returns-then-n-at
returns-then-n-at c = let a = c.args in rw (le-leb a.n 4096 c.if-n-gt-LONGEST.false, lt-leb (a.at + a.bits) (a.n * 8) (omega arith))

pub returns : goal.returns
returns c = let a = c.args in rw (le-leb a.n 4096 c.if-n-gt-LONGEST.false) (room-left (a.n * 8) a.at a.bits c.if-n-at.false)

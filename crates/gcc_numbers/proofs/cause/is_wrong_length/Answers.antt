-- `gcc_numbers::cause::is_wrong_length` meets its contract. Assumes nothing.
use native.Mathlib.Omega.{arith}
use borrow.Author.Tests.{le-leb, lt-leb}
use Prim.Native.Nat.{◌+◌}
use Rattle.gcc_numbers.proofs.cause.is_wrong_length.Goals as goal

pub returns-then-count-eq0 : goal.returns-then-count-eq0
returns-then-count-eq0 c = rw (lt-leb 1 c.args.count (omega arith))

pub returns-then-count-gt255 : goal.returns-then-count-gt255
returns-then-count-gt255 c =
    let a = c.args in
    rw (le-leb 1 a.count (omega arith), lt-leb (a.count + a.size) 255 (omega arith))

pub returns-then-size-gt255 : goal.returns-then-size-gt255
returns-then-size-gt255 c =
    let a = c.args in
    rw (le-leb 1 a.count (omega arith), lt-leb (a.count + a.size) 255 (omega arith))

pub returns-then-count-size-gt255 : goal.returns-then-count-size-gt255
returns-then-count-size-gt255 c =
    let a = c.args in
    rw (le-leb 1 a.count (omega arith), lt-leb (a.count + a.size) 255 c.if-count-size-gt255.true)

pub returns : goal.returns
returns c =
    let a = c.args in
    rw (le-leb 1 a.count (omega arith), le-leb (a.count + a.size) 255 c.if-count-size-gt255.false)

-- `pch::numbers_right` meets its contract. Assumes nothing.
use mathlib.Core.Path.{sym}
use borrow.Author.Tests.{lt-ltb, le-ltb}
use native.Mathlib.Omega.{arith}
use Rattle.pch.specs.Entry.{numbers_right}
use Rattle.pch.proofs.numbers_right.Goals as goal

pub returns-then-behind-gt68719476735 : goal.returns-then-behind-gt68719476735
unfolding numbers_right
returns-then-behind-gt68719476735 c = rw (sym c.behind.ensures, le-ltb c.behind.result 68719476736 (omega (arith, c.if-behind-gt68719476735.true)))

pub returns : goal.returns
unfolding numbers_right
returns c = rw (sym c.behind.ensures, lt-ltb c.behind.result 68719476736 (omega (arith, c.if-behind-gt68719476735.false)), sym c.behind-2.ensures)

-- `gcc::digits::read` meets its contract. Assumes nothing.
use native.Mathlib.Omega.{arith}
use borrow.Author.Tests.{eq-eqb, ne_eqb, le-leb, lt-leb}
use Rattle.gcc.specs.Digits.{read_of}
use Rattle.gcc.proofs.digits.read.Goals as goal

pub returns-then-octets-ne5 : goal.returns-then-octets-ne5
unfolding read_of
returns-then-octets-ne5 c = rw (c.refuse.ensures, ne_eqb _ _ c.if-octets-ne5.true)

pub worth_of-n-requires : goal.worth_of-n-requires
worth_of-n-requires c = (rw c.if-octets-ne5.false (omega arith), λ i h. omega (arith, c.type_inv.octets i))

pub returns-then-n-gt999999999999 : goal.returns-then-n-gt999999999999
unfolding read_of
returns-then-n-gt999999999999 c =
    rw (c.refuse-then-n-gt999999999999.ensures, eq-eqb _ _ c.if-octets-ne5.false, ← c.worth_of-n.ensures, lt-leb _ _ c.if-n-gt999999999999.true)

pub returns : goal.returns
unfolding read_of
returns c =
    rw (eq-eqb _ _ c.if-octets-ne5.false, ← c.worth_of-n.ensures, le-leb _ _ c.if-n-gt999999999999.false, c.spelled.ensures)

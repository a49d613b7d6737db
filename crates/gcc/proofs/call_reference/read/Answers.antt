-- `gcc::call_reference::read` meets its contract. Assumes nothing.
use native.Mathlib.Omega.{arith}
use borrow.Author.Tests.{eq-eqb, ne_eqb, le-leb, lt-leb}
use Rattle.gcc.specs.CallReference.{read_of}
use Rattle.gcc.proofs.call_reference.read.Goals as goal

pub returns-then-octets-ne4 : goal.returns-then-octets-ne4
unfolding read_of
returns-then-octets-ne4 c = rw (c.refuse.ensures, ne_eqb _ _ c.if-octets-ne4.true)

pub worth_of-n-requires : goal.worth_of-n-requires
worth_of-n-requires c = (rw c.if-octets-ne4.false (omega arith), λ i h. omega (arith, c.type_inv.octets i))

pub returns-then-n-gt99999999 : goal.returns-then-n-gt99999999
unfolding read_of
returns-then-n-gt99999999 c =
    rw (c.refuse-then-n-gt99999999.ensures, eq-eqb _ _ c.if-octets-ne4.false, ← c.worth_of-n.ensures, lt-leb _ _ c.if-n-gt99999999.true)

pub returns : goal.returns
unfolding read_of
returns c =
    rw (eq-eqb _ _ c.if-octets-ne4.false, ← c.worth_of-n.ensures, le-leb _ _ c.if-n-gt99999999.false, c.priority_of.ensures, c.without_spare.ensures)

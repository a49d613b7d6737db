-- `gcc::call_reference::write` meets its contract. Assumes nothing.
use mathlib.Core.Path.{◌≡◌}
use lib.ListN.{length}
use borrow.Author.Tests.{eq-eqb, ne_eqb, le-leb, lt-leb}
use Rattle.gcc.specs.CallReference.{write_number, write_to}
use Rattle.gcc.proofs.call_reference.write.Goals as goal

pub returns-then-reference-gt134217727 : goal.returns-then-reference-gt134217727
unfolding write_number write_to
returns-then-reference-gt134217727 c =
    let a = c.args in
    let e : 12 ≡ write_number a.reference a.priority (length a.octets.now) = rw (lt-leb _ _ c.if-reference-gt134217727.true) in
    (e, rw (← e))

pub returns-then-number-eq16 : goal.returns-then-number-eq16
unfolding write_number write_to
returns-then-number-eq16 c =
    let a = c.args in
    let e : 12 ≡ write_number a.reference a.priority (length a.octets.now) =
    rw (le-leb _ _ c.if-reference-gt134217727.false, ← c.number_of-number.ensures, eq-eqb _ _ c.if-number-eq16.true) in
    (e, rw (← e))

pub returns-then-reference-gt99999999 : goal.returns-then-reference-gt99999999
unfolding write_number write_to
returns-then-reference-gt99999999 c =
    let a = c.args in
    let e : 4 ≡ write_number a.reference a.priority (length a.octets.now) =
    rw (le-leb _ _ c.if-reference-gt134217727.false, ← c.number_of-number.ensures, ne_eqb _ _ c.if-number-eq16.false, lt-leb _ _ c.if-reference-gt99999999.true) in
    (e, rw (← e))

pub returns-then-octets-ne4 : goal.returns-then-octets-ne4
unfolding write_number write_to
returns-then-octets-ne4 c =
    let a = c.args in
    let e : 11 ≡ write_number a.reference a.priority (length a.octets.now) =
    rw (le-leb _ _ c.if-reference-gt134217727.false, ← c.number_of-number.ensures, ne_eqb _ _ c.if-number-eq16.false, le-leb _ _ c.if-reference-gt99999999.false, ne_eqb _ _ c.if-octets-ne4.true) in
    (e, rw (← e))

pub returns : goal.returns
unfolding write_number write_to
returns c =
    let a = c.args in
    let n = c.number_of-number.ensures in
    let four = c.if-octets-ne4.false in
    let e : 0 ≡ write_number a.reference a.priority (length a.octets.now) =
    rw (le-leb _ _ c.if-reference-gt134217727.false, ← n, ne_eqb _ _ c.if-number-eq16.false, le-leb _ _ c.if-reference-gt99999999.false, eq-eqb _ _ four) in
    (e, rw (← e, c.put.ensures, four, c.wide.ensures, n))

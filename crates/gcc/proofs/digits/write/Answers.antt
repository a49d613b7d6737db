-- `gcc::digits::write` meets its contract. Assumes nothing.
use native.Mathlib.Omega.{arith}
use mathlib.Core.Path.{◌≡◌, sym, ◌∙◌}
use mathlib.Core.Bool.{true}
use lib.ListN.{length}
use borrow.Author.Tests.{eq-eqb, ne_eqb}
use Rattle.gcc.specs.Octet.{all_between}
use Rattle.gcc.specs.Digits.{write_number, write_to}
use Rattle.gcc.proofs.Lists.{within-each}
use Rattle.gcc.proofs.digits.write.Goals as goal

pub returns-then-digits-ne12 : goal.returns-then-digits-ne12
unfolding write_number write_to
returns-then-digits-ne12 c =
    let a = c.args in
    let e : 13 ≡ write_number a.digits.now (length a.octets.now) = rw (ne_eqb _ _ c.if-digits-ne12.true) in
    (e, rw (← e))

pub returns-then-not-all_within : goal.returns-then-not-all_within
unfolding write_number write_to
returns-then-not-all_within c =
    let a = c.args in
    let e : 12 ≡ write_number a.digits.now (length a.octets.now) =
    rw (eq-eqb _ _ c.if-digits-ne12.false, ← c.all_within.ensures, c.if-not-all_within.true) in
    (e, rw (← e))

pub returns-then-octets-ne5 : goal.returns-then-octets-ne5
unfolding write_number write_to
returns-then-octets-ne5 c =
    let a = c.args in
    let e : 11 ≡ write_number a.digits.now (length a.octets.now) =
    rw (eq-eqb _ _ c.if-digits-ne12.false, ← c.all_within.ensures, c.if-not-all_within.false, ne_eqb _ _ c.if-octets-ne5.true) in
    (e, rw (← e))

pub worth_of-n-requires : goal.worth_of-n-requires
worth_of-n-requires c =
    let a = c.args in
    let w : all_between 48 57 a.digits.now ≡ true = sym c.all_within.ensures ∙ c.if-not-all_within.false in
    (rw c.if-digits-ne12.false (omega arith), λ i h. omega (arith, within-each 48 57 a.digits.now w i h))

pub returns : goal.returns
unfolding write_number write_to
returns c =
    let a = c.args in
    let five = c.if-octets-ne5.false in
    let e : 0 ≡ write_number a.digits.now (length a.octets.now) =
    rw (eq-eqb _ _ c.if-digits-ne12.false, ← c.all_within.ensures, c.if-not-all_within.false, eq-eqb _ _ five) in
    (e, rw (← e, c.put.ensures, five, c.worth_of-n.ensures))

-- `gcc::call_reference::priority_of` meets its contract. Assumes nothing.
use native.Mathlib.Omega.{arith}
use borrow.Author.Tests.{ne_eqb}
use Rattle.gcc.specs.CallReference.{priority_of}
use Rattle.gcc.proofs.call_reference.priority_of.Goals as goal

pub returns-in-0 : goal.returns-in-0
unfolding priority_of
returns-in-0 c = rw c.in-0.is

pub returns-in-18 : goal.returns-in-18
unfolding priority_of
returns-in-18 c = rw c.in-18.is

pub returns-in-20 : goal.returns-in-20
unfolding priority_of
returns-in-20 c = rw c.in-20.is

pub returns-in-22 : goal.returns-in-22
unfolding priority_of
returns-in-22 c = rw c.in-22.is

pub returns-in-24 : goal.returns-in-24
unfolding priority_of
returns-in-24 c = rw c.in-24.is

pub returns-in-26 : goal.returns-in-26
unfolding priority_of
returns-in-26 c = rw c.in-26.is

pub returns-in-28 : goal.returns-in-28
unfolding priority_of
returns-in-28 c = rw c.in-28.is

pub returns-in-30 : goal.returns-in-30
unfolding priority_of
returns-in-30 c = rw c.in-30.is

pub returns-in_default : goal.returns-in_default
unfolding priority_of
returns-in_default c =
    rw (
      ne_eqb c.args.number 0 (omega arith),
      ne_eqb c.args.number 18 (omega arith),
      ne_eqb c.args.number 20 (omega arith),
      ne_eqb c.args.number 22 (omega arith),
      ne_eqb c.args.number 24 (omega arith),
      ne_eqb c.args.number 26 (omega arith),
      ne_eqb c.args.number 28 (omega arith),
      ne_eqb c.args.number 30 (omega arith),
    )

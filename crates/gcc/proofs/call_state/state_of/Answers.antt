-- `gcc::call_state::state_of` meets its contract. Assumes nothing.
use native.Mathlib.Omega.{arith}
use borrow.Author.Tests.{ne_eqb}
use Rattle.gcc.specs.CallState.{state_of}
use Rattle.gcc.proofs.call_state.state_of.Goals as goal

pub returns-in-0 : goal.returns-in-0
unfolding state_of
returns-in-0 c = rw c.in-0.is

pub returns-in-1 : goal.returns-in-1
unfolding state_of
returns-in-1 c = rw c.in-1.is

pub returns-in-2 : goal.returns-in-2
unfolding state_of
returns-in-2 c = rw c.in-2.is

pub returns-in-3 : goal.returns-in-3
unfolding state_of
returns-in-3 c = rw c.in-3.is

pub returns-in-4 : goal.returns-in-4
unfolding state_of
returns-in-4 c = rw c.in-4.is

pub returns-in-5 : goal.returns-in-5
unfolding state_of
returns-in-5 c = rw c.in-5.is

pub returns-in-6 : goal.returns-in-6
unfolding state_of
returns-in-6 c = rw c.in-6.is

pub returns-in-7 : goal.returns-in-7
unfolding state_of
returns-in-7 c = rw c.in-7.is

pub returns-in-8 : goal.returns-in-8
unfolding state_of
returns-in-8 c = rw c.in-8.is

pub returns-in-9 : goal.returns-in-9
unfolding state_of
returns-in-9 c = rw c.in-9.is

pub returns-in-10 : goal.returns-in-10
unfolding state_of
returns-in-10 c = rw c.in-10.is

pub returns-in-11 : goal.returns-in-11
unfolding state_of
returns-in-11 c = rw c.in-11.is

pub returns-in_default : goal.returns-in_default
unfolding state_of
returns-in_default c =
    rw (
      ne_eqb c.args.number 0 (omega arith),
      ne_eqb c.args.number 1 (omega arith),
      ne_eqb c.args.number 2 (omega arith),
      ne_eqb c.args.number 3 (omega arith),
      ne_eqb c.args.number 4 (omega arith),
      ne_eqb c.args.number 5 (omega arith),
      ne_eqb c.args.number 6 (omega arith),
      ne_eqb c.args.number 7 (omega arith),
      ne_eqb c.args.number 8 (omega arith),
      ne_eqb c.args.number 9 (omega arith),
      ne_eqb c.args.number 10 (omega arith),
      ne_eqb c.args.number 11 (omega arith),
    )

-- `gcc::talker::priority_of` meets its contract. Assumes nothing.
use native.Mathlib.Omega.{arith}
use borrow.Author.Tests.{ne_eqb}
use Rattle.gcc.specs.Talker.{priority_of}
use Rattle.gcc.proofs.talker.priority_of.Goals as goal

pub returns-in-0 : goal.returns-in-0
unfolding priority_of
returns-in-0 c = rw c.in-0.is

pub returns-in-1 : goal.returns-in-1
unfolding priority_of
returns-in-1 c = rw c.in-1.is

pub returns-in-2 : goal.returns-in-2
unfolding priority_of
returns-in-2 c = rw c.in-2.is

pub returns-in_default : goal.returns-in_default
unfolding priority_of
returns-in_default c = rw (ne_eqb c.args.number 0 (omega arith), ne_eqb c.args.number 1 (omega arith), ne_eqb c.args.number 2 (omega arith))

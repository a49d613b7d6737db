-- `gcc::message_type::kind_of` meets its contract. Assumes nothing.
use native.Mathlib.Omega.{arith}
use borrow.Author.Tests.{ne_eqb}
use Rattle.gcc.specs.MessageType.{kind_of}
use Rattle.gcc.proofs.message_type.kind_of.Goals as goal

pub returns-in-49 : goal.returns-in-49
unfolding kind_of
returns-in-49 c = rw c.in-49.is

pub returns-in-50 : goal.returns-in-50
unfolding kind_of
returns-in-50 c = rw c.in-50.is

pub returns-in-51 : goal.returns-in-51
unfolding kind_of
returns-in-51 c = rw c.in-51.is

pub returns-in-52 : goal.returns-in-52
unfolding kind_of
returns-in-52 c = rw c.in-52.is

pub returns-in-53 : goal.returns-in-53
unfolding kind_of
returns-in-53 c = rw c.in-53.is

pub returns-in-54 : goal.returns-in-54
unfolding kind_of
returns-in-54 c = rw c.in-54.is

pub returns-in-56 : goal.returns-in-56
unfolding kind_of
returns-in-56 c = rw c.in-56.is

pub returns-in-57 : goal.returns-in-57
unfolding kind_of
returns-in-57 c = rw c.in-57.is

pub returns-in-58 : goal.returns-in-58
unfolding kind_of
returns-in-58 c = rw c.in-58.is

pub returns-in-59 : goal.returns-in-59
unfolding kind_of
returns-in-59 c = rw c.in-59.is

pub returns-in_default : goal.returns-in_default
unfolding kind_of
returns-in_default c =
    rw (
      ne_eqb c.args.number 49 (omega arith),
      ne_eqb c.args.number 50 (omega arith),
      ne_eqb c.args.number 51 (omega arith),
      ne_eqb c.args.number 52 (omega arith),
      ne_eqb c.args.number 53 (omega arith),
      ne_eqb c.args.number 54 (omega arith),
      ne_eqb c.args.number 56 (omega arith),
      ne_eqb c.args.number 57 (omega arith),
      ne_eqb c.args.number 58 (omega arith),
      ne_eqb c.args.number 59 (omega arith),
    )

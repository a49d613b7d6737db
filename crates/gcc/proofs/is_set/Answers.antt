-- `gcc::is_set` meets its contract. Assumes nothing.
use borrow.Author.Rules.{rules}
use Rattle.gcc.specs.Octet.{is_set}
use Rattle.gcc.proofs.is_set.Goals as goal

pub returns : goal.returns
unfolding is_set
returns c = search rules

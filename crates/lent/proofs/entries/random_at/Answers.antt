-- `lent::entries::random_at` meets its contract. Assumes nothing.
use Rattle.nch.specs.NotificationNumbers.{random_from}
use Rattle.lent.proofs.FromNumbers.{random-past, random-there}
use native.Mathlib.Omega.{arith}
use Rattle.lent.proofs.entries.random_at.Goals as goal

pub owns_none-requires : goal.owns_none-requires
owns_none-requires c = tt

pub returns-then-m-k : goal.returns-then-m-k
returns-then-m-k c = let a = c.args in rw (random-past a.m.now a.k (omega arith)) c.owns_none.ensures

pub returns : goal.returns
unfolding random_from
returns c = rw (random-there c.args.m.now c.args.k c.requires.1 (omega arith))

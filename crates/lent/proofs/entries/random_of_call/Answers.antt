-- `lent::entries::random_of_call` meets its contract. Assumes nothing.
use Prim.Native.Nat.{◌+◌}
use lib.ListN.{get_or}
use borrow.Author.Tests.{lt-leb, le-leb}
use Rattle.nch.specs.CallNumbers.{call_by}
use native.Mathlib.Omega.{arith}
use Rattle.lent.proofs.entries.random_of_call.Goals as goal

pub owns_none-requires : goal.owns_none-requires
owns_none-requires c = tt

pub returns-then-m-at-lt1 : goal.returns-then-m-at-lt1
unfolding call_by
returns-then-m-at-lt1 c = let a = c.args in rw (lt-leb 1 (get_or a.m.now (a.at + 4) 0) (omega arith)) c.owns_none.ensures

pub random_at-requires : goal.random_at-requires
random_at-requires c = let p = c.requires in (p.0, p.1.0)

pub returns : goal.returns
unfolding call_by
returns c = let a = c.args in rw (le-leb 1 (get_or a.m.now (a.at + 4) 0) (omega arith)) c.random_at.ensures

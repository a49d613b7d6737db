-- `lent::entries::reduced_call` meets its contract. Assumes nothing.
use Rattle.nch.specs.NotificationNumbers.{reduced_by}
use native.Mathlib.Omega.{arith}
use Rattle.lent.proofs.entries.reduced_call.Goals as goal

pub no_call-c-requires : goal.no_call-c-requires
no_call-c-requires c = tt

pub overflow_cast-c : goal.overflow_cast-c
overflow_cast-c c = omega (arith, c.requires.0.reference)

pub returns : goal.returns
unfolding reduced_by
returns c = rw c.no_call-c.ensures

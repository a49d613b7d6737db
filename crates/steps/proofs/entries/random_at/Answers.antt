-- `steps::entries::random_at` meets its contract. Assumes nothing.
use native.Mathlib.Omega.{arith}
use Rattle.nch.specs.Told.{no_random}
use Rattle.receiver.proofs.MessageEntries.{nth_past, nth-there}
use Rattle.steps.proofs.entries.random_at.Goals as goal

pub returns-then-m-k : goal.returns-then-m-k
returns-then-m-k c =
    let a = c.args in
    rw (nth_past a.k a.m.release6.randomcount a.m.release6.randoms (omega arith)) c.owns_none.ensures

pub returns-then-k-ge9 : goal.returns-then-k-ge9
returns-then-k-ge9 c =
    rw (nth_past c.args.k c.args.m.release6.randomcount c.args.m.release6.randoms (omega arith)) c.owns_none-then-k-ge9.ensures

pub returns : goal.returns
returns c =
    rw (nth-there c.args.k c.args.m.release6.randomcount c.args.m.release6.randoms no_random (omega arith) (omega arith))

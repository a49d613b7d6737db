-- `nch_words::calls::put_head` meets its contract. Assumes nothing.
use lib.ListN.{length-set}
use Rattle.nch_words.proofs.OneCall.{head-stored}
use native.Mathlib.Omega.{arith}
use Rattle.nch_words.proofs.calls.put_head.Goals as goal

pub bounds-numbers-place-2 : goal.bounds-numbers-place-2
bounds-numbers-place-2 c = simp length-set (omega (arith, c.requires))

pub bounds-numbers-place-3 : goal.bounds-numbers-place-3
bounds-numbers-place-3 c = simp length-set (omega (arith, c.requires))

pub bounds-numbers-place-4 : goal.bounds-numbers-place-4
bounds-numbers-place-4 c = simp length-set (omega (arith, c.requires))

pub bounds-numbers-place-5 : goal.bounds-numbers-place-5
bounds-numbers-place-5 c = simp length-set (omega (arith, c.requires))

pub returns : goal.returns
returns c = head-stored _ _ _

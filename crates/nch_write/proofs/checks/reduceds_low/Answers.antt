-- `nch_write::checks::reduceds_low` meets its contract. Assumes nothing.
use Rattle.nch.specs.Told.{no_reduced}
use mathlib.Core.Path.{refl, ◌∙◌}
use borrow.Author.Tests.{le-leb, lt-leb}
use Rattle.nch_write.proofs.Testing.{places_begin, places-used, places-unused, places-end, places_failed, all-places}
use native.Mathlib.Omega.{arith}
use Rattle.nch_write.proofs.checks.reduceds_low.Goals as goal
use Rattle.nch_write.proofs.checks.reduceds_low.Goals.{then-i-n+else-c-gt99999999, else-i-n}

pub loop-i-init : goal.loop-i-init
loop-i-init c = places_begin _ _ _ _ _ (omega arith)

pub returns-then-c-gt99999999 : goal.returns-then-c-gt99999999
returns-then-c-gt99999999 c = places_failed (places-used c.loop-i.invariant _ c.loop-i-test.true c.if-i-n.true (lt-leb _ _ c.if-c-gt99999999.true)) ∙ all-places _ _ _

pub loop-i-preserved : goal.loop-i-preserved
loop-i-preserved c =
    elim c.if-i-n.branch [
      | then-i-n+else-c-gt99999999 w ↦ places-used c.loop-i.invariant _ c.loop-i-test.true w.if-i-n.true (le-leb _ _ w.if-c-gt99999999.false)
      | else-i-n w ↦ places-unused c.loop-i.invariant no_reduced c.loop-i-test.true w.if-i-n.false refl
    ]

pub returns : goal.returns
returns c = places-end c.loop-i.invariant c.loop-i-test.false ∙ all-places _ _ _

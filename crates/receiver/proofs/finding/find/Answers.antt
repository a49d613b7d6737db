-- `receiver::finding::find` meets its contract. Assumes nothing.
use mathlib.Core.Path.{sym, ◌∙◌}
use Rattle.receiver.proofs.Halving.{going_begin, going-none, going-same, going-below, going-above}
use native.Mathlib.Omega.{arith}
use Rattle.receiver.proofs.finding.find.Goals as goal

pub loop-start-init : goal.loop-start-init
loop-start-init c = going_begin _ _

pub returns-then-here-key : goal.returns-then-here-key
returns-then-here-key c =
    let l = c.loop-start in
    going-same _ _ l.start l.end l.looks l.invariant c.loop-start-test.true (sym c.from-here.ensures ∙ c.if-here-key.true)

pub loop-start-preserved-then-key-here : goal.loop-start-preserved-then-key-here
loop-start-preserved-then-key-here c =
    let l = c.loop-start in
    going-below _ _ l.start l.end l.looks l.invariant c.loop-start-test.true (omega (arith, c.from-here.ensures))

pub loop-start-preserved : goal.loop-start-preserved
loop-start-preserved c =
    let l = c.loop-start in
    going-above _ _ l.start l.end l.looks l.invariant c.loop-start-test.true (omega (arith, c.from-here.ensures))

pub returns : goal.returns
returns c = let l = c.loop-start in going-none _ _ l.start l.end l.looks l.invariant c.loop-start-test.false

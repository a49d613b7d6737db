-- `views::held::next_expiry` meets its contract. Assumes nothing.
use mathlib.Core.Path.{sym, ◌∙◌}
use Rattle.layout.proofs.States.{at-state, no_state}
use Rattle.views.proofs.Holding.{least_next, least_end, least_all}
use Rattle.views.proofs.held.next_expiry.Goals as goal

pub returns-then-b-ne-LENGTH : goal.returns-then-b-ne-LENGTH
returns-then-b-ne-LENGTH c = sym (no_state c.args.b.now _ _ c.if-b-ne-LENGTH.true)

pub loop-i-init : goal.loop-i-init
loop-i-init c = least_all c.args.b.now

pub loop-i-preserved : goal.loop-i-preserved
loop-i-preserved c =
    let l = c.loop-i in
    let b = c.args.b.now in
    rw c.sooner_at-least.ensures (sym (least_next b l.least l.i c.loop-i-test.true) ∙ l.invariant)

pub returns : goal.returns
returns c =
    let l = c.loop-i in
    let b = c.args.b.now in
    sym (least_end b l.least l.i c.loop-i-test.false) ∙ l.invariant ∙ sym (at-state b _ _ c.if-b-ne-LENGTH.false)

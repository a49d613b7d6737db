-- `views::held::count` meets its contract. Assumes nothing.
use mathlib.Core.Path.{sym, ap, ◌∙◌}
use native.Mathlib.Omega.{arith}
use lib.ListN.{length}
use Rattle.csn1.specs.Told.{as_bit}
use Rattle.csn1.proofs.Writing.{flag_byte, byte_lt}
use Rattle.layout.proofs.States.{at-state, no_state}
use Rattle.views.proofs.Holding.{rest_all, count-step, count-end}
use Rattle.views.proofs.held.count.Goals as goal

pub returns-then-b-ne-LENGTH : goal.returns-then-b-ne-LENGTH
returns-then-b-ne-LENGTH c = sym (no_state c.args.b.now _ _ c.if-b-ne-LENGTH.true)

pub overflow_add-n : goal.overflow_add-n
overflow_add-n c = omega (arith, c.from-n.ensures, byte_lt c.holds.result)

pub loop-i-preserved : goal.loop-i-preserved
loop-i-preserved c =
    let l = c.loop-i in
    let b = c.args.b.now in (
      omega (arith, c.from-n.ensures, byte_lt c.holds.result),
      count-step b l.n l.i _ _ c.loop-i-test.true (c.from-n.ensures ∙ flag_byte c.holds.result ∙ ap as_bit c.holds.ensures) l.invariant.1,
    )

pub returns : goal.returns
returns c =
    let l = c.loop-i in
    let b = c.args.b.now in
    sym (count-end b l.n l.i c.loop-i-test.false) ∙ l.invariant.1 ∙ ap length (rest_all b) ∙ sym (at-state b _ _ c.if-b-ne-LENGTH.false)

-- `yard::showing::count` meets its contract. Assumes nothing.
use mathlib.Core.Path.{ap, ◌∙◌}
use native.Mathlib.Omega.{arith}
use Rattle.csn1.specs.Told.{as_bit}
use Rattle.csn1.proofs.Writing.{flag_byte, byte_lt}
use Rattle.yard.proofs.ShownCalls.{count-step, count-end, not_yard, at-yard}
use Rattle.yard.proofs.showing.count.Goals as goal

pub returns-then-b-ne-LENGTH : goal.returns-then-b-ne-LENGTH
returns-then-b-ne-LENGTH c = not_yard c.args.b.now _ 0 c.if-b-ne-LENGTH.true

pub overflow_add-n : goal.overflow_add-n
overflow_add-n c = omega (arith, c.from-n.ensures, byte_lt c.shows.result)

pub loop-i-preserved : goal.loop-i-preserved
loop-i-preserved c =
    let l = c.loop-i in
    let b = c.args.b.now in (
      omega (arith, c.from-n.ensures, byte_lt c.shows.result),
      count-step b l.n l.i _ c.loop-i-test.true (c.from-n.ensures ∙ flag_byte c.shows.result ∙ ap as_bit c.shows.ensures) l.invariant.1,
    )

pub returns : goal.returns
returns c =
    let l = c.loop-i in
    let b = c.args.b.now in
    count-end b l.n l.i c.loop-i-test.false l.invariant.1 ∙ at-yard b _ 0 c.if-b-ne-LENGTH.false

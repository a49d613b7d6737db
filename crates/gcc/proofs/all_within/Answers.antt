-- `gcc::all_within` meets its contract. Assumes nothing.
use native.Mathlib.Omega.{arith}
use mathlib.Core.Path.{sym, ap, ◌∙◌}
use Rattle.gcc.specs.Octet.{all_between}
use Rattle.gcc.proofs.Lists.{within-next, within_low, within-high, drop_all}
use Rattle.gcc.proofs.all_within.Goals as goal

pub returns-then-s-i : goal.returns-then-s-i
returns-then-s-i c =
    let a = c.args in
    let l = c.loop-i in
    sym (l.invariant.1 ∙ within_low a.lo a.hi l.i a.s.now c.loop-i-test.true c.if-s-i.true)

pub returns-then-hi-s : goal.returns-then-hi-s
returns-then-hi-s c =
    let a = c.args in
    let l = c.loop-i in
    sym (l.invariant.1 ∙ within-high a.lo a.hi l.i a.s.now (omega arith) c.if-s-i.false c.if-hi-s.true)

pub loop-i-preserved : goal.loop-i-preserved
loop-i-preserved c =
    let a = c.args in
    let l = c.loop-i in
    (omega arith, l.invariant.1 ∙ within-next a.lo a.hi l.i a.s.now (omega arith) c.if-s-i.false c.if-hi-s.false)

pub returns : goal.returns
unfolding all_between
returns c =
    let a = c.args in
    let l = c.loop-i in
    sym (l.invariant.1 ∙ ap (all_between a.lo a.hi) (drop_all l.i a.s.now l.invariant.0 c.loop-i-test.false))

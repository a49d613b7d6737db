-- `gcc::worth_of` meets its contract. Assumes nothing.
use native.Mathlib.Omega.{arith}
use mathlib.Core.Path.{refl, sym, ◌∙◌}
use native.Mathlib.Nat.{pow-zero}
use Rattle.gcc.specs.Numeral.{worth}
use Rattle.gcc.proofs.Numerals.{worth_turn, worth-fits}
use Rattle.gcc.proofs.Lists.{drop_all}
use borrow.Author.Rules.{rules}
use Rattle.gcc.proofs.worth_of.Goals as goal

pub loop-i-init : goal.loop-i-init
loop-i-init c = (search rules, rw pow-zero (omega arith), refl)

pub overflow_mul-n : goal.overflow_mul-n
overflow_mul-n c =
    let a = c.args in
    let l = c.loop-i in
    let p = c.requires in
    omega (arith, p.0, worth-fits a.base a.nought l.n l.i a.s.now p.1 (omega arith) l.invariant.1)

pub overflow_sub-s : goal.overflow_sub-s
overflow_sub-s c =
    let p = c.requires in
    omega (arith, p.1 c.loop-i.i (omega arith))

pub overflow_add-n : goal.overflow_add-n
overflow_add-n c =
    let a = c.args in
    let l = c.loop-i in
    let p = c.requires in
    omega (arith, p.0, c.wide.ensures, worth-fits a.base a.nought l.n l.i a.s.now p.1 (omega arith) l.invariant.1)

pub loop-i-preserved : goal.loop-i-preserved
loop-i-preserved c =
    let a = c.args in
    let l = c.loop-i in
    let p = c.requires in (
      omega arith,
      rw c.wide.ensures (worth-fits a.base a.nought l.n l.i a.s.now p.1 (omega arith) l.invariant.1).0,
      l.invariant.2 ∙ rw c.wide.ensures (worth_turn a.base a.nought l.n l.i a.s.now (omega arith)),
    )

pub returns : goal.returns
unfolding worth
returns c =
    let a = c.args in
    let l = c.loop-i in
    sym (l.invariant.2 ∙ rw (drop_all l.i a.s.now l.invariant.0 c.loop-i-test.false))

-- `gcc::copy` meets its contract. Assumes nothing.
use native.Mathlib.Omega.{arith}
use mathlib.Core.Path.{◌≡◌, ap, ◌∙◌}
use Prim.Native.Nat.{◌+◌}
use lib.ListN.{length, get_or, set, length-set}
use lib.Seq.{paste, paste-zero}
use Rattle.gcc.proofs.Lists.{copy-next, copy-end}
use borrow.Author.Rules.{rules}
use Rattle.gcc.proofs.copy.Goals as goal

pub loop-i-init : goal.loop-i-init
loop-i-init c = (search rules, search rules, paste-zero c.args.into.now c.args.at c.args.from.now)

pub loop-i-preserved : goal.loop-i-preserved
loop-i-preserved c =
    let a = c.args in
    let l = c.loop-i in
    (omega arith, simp length-set l.invariant.1, ap (λ t. set t (a.at + l.i) (get_or a.from.now l.i 0)) l.invariant.2 ∙ copy-next a.into.now a.at a.from.now l.i (omega arith) (omega arith))

pub returns : goal.returns
returns c =
    let a = c.args in
    let l = c.loop-i in
    let e : l.i ≡ length a.from.now = omega arith in
    l.invariant.2 ∙ ap (paste a.into.now a.at a.from.now) e ∙ copy-end a.into.now a.at a.from.now

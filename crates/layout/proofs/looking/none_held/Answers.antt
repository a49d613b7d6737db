-- `layout::looking::none_held` meets its contract. Assumes nothing.
use native.Mathlib.Omega.{arith}
use lib.Dec.{eqb}
use borrow.Author.Tests.{eqb-true, eqb-false}
use Rattle.receiver.proofs.Cases.{by-test}
use Rattle.layout.proofs.NoneOut.{or_none}
use Rattle.layout.proofs.looking.none_held.Goals as goal

pub loop-key-init : goal.loop-key-init
loop-key-init c = λ e k p q. absurd (omega (arith, p, q))

pub loop-key-preserved : goal.loop-key-preserved
loop-key-preserved c =
    let l = c.loop-key in
    λ e k p q.
    let n = or_none l.all _ e in
    by-test (eqb k l.key) (λ t. rw (eqb-true k l.key t) n.1) (λ t. l.invariant n.0 k p (omega (arith, q, eqb-false k l.key t)))

pub returns : goal.returns
returns c =
    let l = c.loop-key in
    λ e k p q. l.invariant (eqb-true _ _ e) k p (omega (arith, q))

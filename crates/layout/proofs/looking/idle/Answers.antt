-- `layout::looking::idle` meets its contract. Assumes nothing.
use mathlib.Core.Path.{◌≡◌, sym, ◌∙◌}
use Prim.Native.Nat.{◌+◌, ◌*◌}
use native.Mathlib.Omega.{arith}
use borrow.Author.Tests.{eqb-true}
use Rattle.layout.specs.Layout.{kinds_from}
use Rattle.layout.proofs.Numbers.{zero_le}
use Rattle.layout.proofs.NoneOut.{zeros-more, or_none}
use Rattle.layout.proofs.looking.idle.Goals as goal

pub returns-then-u64_at-ne0 : goal.returns-then-u64_at-ne0
returns-then-u64_at-ne0 c = λ e k h. cc

pub loop-k-init : goal.loop-k-init
loop-k-init c = λ e. zero_le 8 _ kinds_from (sym c.u64_at.ensures ∙ omega (arith, c.if-u64_at-ne0.false))

pub loop-k-preserved : goal.loop-k-preserved
loop-k-preserved c =
    let l = c.loop-k in
    λ e.
    let n = or_none l.all c.u64_at-all.result e in
    let s : 8 * l.k + 8 ≡ 8 * (l.k + 1) = omega arith in
    rw s at (zeros-more c.args.b.now kinds_from (8 * l.k) (l.invariant n.0) (sym c.u64_at-all.ensures ∙ n.1))

pub returns : goal.returns
returns c = λ e k h. c.loop-k.invariant (eqb-true _ _ e) k (omega arith)

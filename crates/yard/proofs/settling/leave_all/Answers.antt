-- `yard::settling::leave_all` meets its contract. Assumes nothing.
use mathlib.Core.Path.{◌≡◌, ap, sym, ◌∙◌}
use Prim.Native.Nat.{ℕ}
use native.Mathlib.Omega.{arith}
use lib.ListN.{length}
use Rattle.yard.specs.Yard.{call_count}
use Rattle.yard.specs.Octets.{left_run}
use Rattle.yard.proofs.Leaving.{left-none, left-next}
use Rattle.yard.proofs.Values.{length-left_run}
use Rattle.yard.proofs.settling.leave_all.Goals as goal

pub loop-i-init : goal.loop-i-init
loop-i-init c = (c.requires, left-none c.args.all c.args.time c.args.b.now)

pub leave-requires : goal.leave-requires
leave-requires c = (c.loop-i.invariant.0, c.loop-i-test.true)

pub loop-i-preserved : goal.loop-i-preserved
loop-i-preserved c =
    let l = c.loop-i in
    let a = c.args in
    let e = left-next a.all a.time a.b.now l.b _ l.i l.invariant.1 c.leave.ensures in
    (ap length e ∙ length-left_run a.all a.time _ a.b.now ∙ c.requires, e)

pub shape_of-b : goal.shape_of-b
shape_of-b c = c.loop-i.invariant.0 ∙ sym c.requires

pub returns : goal.returns
returns c =
    let l = c.loop-i in
    let a = c.args in
    let q : l.i ≡ call_count = omega arith in
    l.invariant.1 ∙ ap (λ (n : ℕ). left_run a.all a.time n a.b.now) q

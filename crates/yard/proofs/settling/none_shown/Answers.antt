-- `yard::settling::none_shown` meets its contract. Assumes nothing.
use Prim.Native.Nat.{◌+◌}
use native.Mathlib.Omega.{arith}
use borrow.Author.Tests.{eqb-true}
use Rattle.layout.specs.Octets.{octet_at}
use Rattle.layout.proofs.NoneOut.{or_none}
use Rattle.yard.specs.Octets.{call_place}
use Rattle.yard.proofs.Quiet.{no_calls-more}
use Rattle.yard.proofs.settling.none_shown.Goals as goal

pub loop-i-init : goal.loop-i-init
loop-i-init c = λ e k h. absurd (omega (arith, h))

pub loop-i-preserved : goal.loop-i-preserved
loop-i-preserved c =
    let l = c.loop-i in
    let b = c.args.b.now in
    λ e. let n = or_none l.all (octet_at b (call_place l.i + 16)) e in no_calls-more b l.i (l.invariant n.0) n.1

pub returns : goal.returns
returns c = λ e k h. c.loop-i.invariant (eqb-true _ _ e) k (omega arith)

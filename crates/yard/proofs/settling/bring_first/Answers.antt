-- `yard::settling::bring_first` meets its contract. Assumes nothing.
use mathlib.Core.Path.{◌≡◌, ap, sym, ◌∙◌}
use Prim.Native.Nat.{ℕ}
use native.Mathlib.Omega.{arith}
use lib.ListN.{length}
use Rattle.yard.specs.Octets.{brought_run}
use Rattle.yard.proofs.Coming.{brought-none, brought-next}
use Rattle.yard.proofs.Values.{length-brought_run}
use Rattle.yard.proofs.settling.bring_first.Goals as goal

pub loop-j-init : goal.loop-j-init
loop-j-init c = (c.requires.0, brought-none c.args.b.now)

pub bring-requires : goal.bring-requires
bring-requires c =
    let l = c.loop-j in
    (l.invariant.0, omega (arith, c.loop-j-test.true, c.requires.1))

pub loop-j-preserved : goal.loop-j-preserved
loop-j-preserved c =
    let l = c.loop-j in
    let a = c.args in
    let e = brought-next a.b.now l.b _ l.j l.invariant.1 c.bring.ensures in
    (ap length e ∙ length-brought_run _ a.b.now ∙ c.requires.0, e)

pub shape_of-b : goal.shape_of-b
shape_of-b c = c.loop-j.invariant.0 ∙ sym c.requires.0

pub returns : goal.returns
returns c =
    let l = c.loop-j in
    let a = c.args in
    let q : l.j ≡ a.n = omega arith in
    l.invariant.1 ∙ ap (λ (k : ℕ). brought_run k a.b.now) q

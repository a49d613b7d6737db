-- `pen::octets::one_at_most` meets its contract. Assumes nothing.
use mathlib.Core.Path.{◌≡◌, sym, ap}
use Prim.Native.Nat.{ℕ}
use lib.Seq.{sets}
use Rattle.pen.specs.Inner.{digits}
use native.Mathlib.Omega.{arith}
use Rattle.pen.proofs.octets.one_at_most.Goals as goal

pub returns-then-n-eq1 : goal.returns-then-n-eq1
unfolding digits
returns-then-n-eq1 c =
    ap (λ (n : ℕ). sets c.args.octets.now 0 (digits n c.args.v)) (sym c.if-n-eq1.true)

pub returns-else-n-eq1 : goal.returns-else-n-eq1
unfolding digits
returns-else-n-eq1 c =
    let e : c.args.n ≡ 0 = omega arith in
    ap (λ (n : ℕ). sets c.args.octets.now 0 (digits n c.args.v)) (sym e)

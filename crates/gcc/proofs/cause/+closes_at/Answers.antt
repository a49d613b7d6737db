-- `gcc::cause::closes_at` meets its contract. Assumes nothing.
use native.Mathlib.Omega.{arith}
use mathlib.Core.Path.{◌≡◌}
use Rattle.gcc.specs.Inner.{closing}
use Rattle.gcc.proofs.Causes.{closing-here, closing-next}
use Rattle.gcc.proofs.cause.+closes_at.Goals as goal

pub returns-then-left-eq0 : goal.returns-then-left-eq0
unfolding closing
returns-then-left-eq0 t c =
    let e : c.args.left ≡ 0 = c.if-left-eq0.true in
    rw e (omega arith)

pub returns-then-octets-at-gt127 : goal.returns-then-octets-at-gt127
returns-then-octets-at-gt127 t c =
    let a = c.args in
    omega (arith, closing-here a.octets.now a.at a.left (omega (arith, c.requires)) (omega arith) c.if-octets-at-gt127.true)

pub returns : goal.returns
returns t c =
    let a = c.args in
    omega (arith, c.closes_at.ensures, closing-next a.octets.now a.at a.left (omega (arith, c.requires)) (omega arith) c.if-octets-at-gt127.false)

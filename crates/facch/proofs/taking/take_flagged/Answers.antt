-- `facch::taking::take_flagged` meets its contract. Assumes nothing.
use Rattle.facch.proofs.Taken.{flag-none, flag-some}
use native.Mathlib.Omega.{arith}
use Rattle.facch.proofs.taking.take_flagged.Goals as goal

pub returns-then-part-eq0 : goal.returns-then-part-eq0
returns-then-part-eq0 c =
    let a = c.args in
    (omega arith, λ s p e. flag-none s p a.from a.width _ (c.part.ensures s p e) c.if-part-eq0.true)

pub returns : goal.returns
returns c =
    let a = c.args in
    (omega arith, λ s p e. flag-some s p a.from a.width _ (c.part.ensures s p e) c.if-part-eq0.false _ (c.part-2.ensures s p e))

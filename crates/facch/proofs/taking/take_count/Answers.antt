-- `facch::taking::take_count` meets its contract. Assumes nothing.
use Rattle.words.proofs.Windows.{part_cut}
use Rattle.facch.proofs.Taken.{count_none, count-some}
use native.Mathlib.Omega.{arith}
use Rattle.facch.proofs.taking.take_count.Goals as goal

pub returns-then-part-eq0 : goal.returns-then-part-eq0
returns-then-part-eq0 c =
    (omega arith, λ s p e. count_none s p _ (c.part.ensures s p e) c.if-part-eq0.true)

pub returns : goal.returns
returns c =
    let x = c.args.x in
    (omega arith, λ s p e. count-some s p _ (c.part.ensures s p e) c.if-part-eq0.false _ _ (part_cut x 2 2 (omega arith) s p e) (c.part-2.ensures s p e))

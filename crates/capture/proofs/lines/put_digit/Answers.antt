-- `capture::lines::put_digit` meets its contract. Assumes nothing.
use Rattle.std.proofs.Common.{refl, arith, length-set}
use Rattle.capture.proofs.Texts.{digit-added}
use Rattle.capture.proofs.lines.put_digit.Goals as goal

pub bounds-out-at-2 : goal.bounds-out-at-2
bounds-out-at-2 c = simp length-set (omega (arith, c.requires.0))

pub returns : goal.returns
returns c =
    let a = c.args in
    digit-added a.out.now a.at a.n _ a.behind c.requires.0 c.requires.1 refl

-- `facch::taking::part` meets its contract. Assumes nothing.
use Rattle.words.proofs.Windows.{part_cut}
use native.Mathlib.Omega.{arith}
use Rattle.facch.proofs.taking.part.Goals as goal

pub returns : goal.returns
returns c =
    part_cut c.args.x c.args.from c.args.width (omega arith)

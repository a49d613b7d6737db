-- `nch_words::parts::part` meets its contract. Assumes nothing.
use Rattle.words.proofs.Windows.{part_cut}
use native.Mathlib.Omega.{arith}
use Rattle.nch_words.proofs.parts.part.Goals as goal

pub returns : goal.returns
returns c = part_cut c.args.x c.args.from c.args.width (omega arith)

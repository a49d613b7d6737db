-- `text::Line::number` meets its contract. Assumes nothing.
use mathlib.Core.Path.{◌∙◌}
use native.Mathlib.Omega.{arith}
use Rattle.text.proofs.Found.{found_digits}
use Rattle.text.proofs.Line.number.Goals as goal

pub returns : goal.returns
returns c =
    let d = c.find_decimal-k.ensures in
    let e = d.1.1 ∙ found_digits 10 (omega arith) 20 0 _ _ (omega arith) (omega arith) d.1.0 in
    c.word-2.ensures ∙ rw (e, c.word.ensures)

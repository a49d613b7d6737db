-- `text::Line::word` meets its contract. Assumes nothing.
use Rattle.text.specs.Lines.{with_behind}
use Rattle.text.proofs.Line.word.Goals as goal

pub returns-in-Some : goal.returns-in-Some
unfolding with_behind
returns-in-Some c = cc

pub returns-in-None : goal.returns-in-None
unfolding with_behind
returns-in-None c = cc

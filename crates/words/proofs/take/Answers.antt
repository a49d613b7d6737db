-- `words::take` meets its contract. Assumes nothing.
use mathlib.Core.Path.{◌∙◌}
use Rattle.words.proofs.Taken.{too_short, too_long, too_far, in_words}
use native.Mathlib.Omega.{arith}
use Rattle.words.proofs.take.Goals as goal

pub returns-then-s-lt9 : goal.returns-then-s-lt9
returns-then-s-lt9 c =
    let a = c.args in
    c.no_call.ensures ∙ too_short a.s.now a.at (omega arith)

pub returns-then-s-gt24 : goal.returns-then-s-gt24
returns-then-s-gt24 c =
    let a = c.args in
    c.no_call-then-s-gt24.ensures ∙ too_long a.s.now a.at (omega arith)

pub returns-then-at-gt192 : goal.returns-then-at-gt192
returns-then-at-gt192 c =
    let a = c.args in
    c.no_call-then-at-gt192.ensures ∙ too_far a.s.now a.at (omega arith) (omega arith) (omega arith)

pub returns : goal.returns
returns c =
    let a = c.args in
    c.take_from.ensures ∙ in_words a.s.now a.at (omega arith) (omega arith) (omega arith)

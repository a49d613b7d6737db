-- `pen::calls::put` meets its contract. Assumes nothing.
use mathlib.Core.Path.{ap, ◌∙◌}
use Rattle.pen.specs.declared.Words.{Words}
use Rattle.pen.specs.Words.{put_words, put_description, put_call}
use Rattle.pen.proofs.CallBits.{taken, left}
use Rattle.pen.proofs.calls.put.Goals as goal

pub returns-then-c : goal.returns-then-c
unfolding put_call
returns-then-c c =
    let a = c.args in
    let e = c.put-reference.ensures ∙ ap (put_words a.w 37) c.head.ensures in
    c.put_description.ensures ∙ ap (λ (t : Words). put_description t a.c.description) e ∙ taken _ _ a.c.hasDescription c.if-c.true

pub returns : goal.returns
unfolding put_call
returns c =
    let a = c.args in
    c.put-reference.ensures ∙ ap (put_words a.w 37) c.head.ensures ∙ left _ _ a.c.hasDescription c.if-c.false

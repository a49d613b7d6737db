-- `pen::calls::put_frequencies` meets its contract. Assumes nothing.
use mathlib.Core.Path.{ap, ◌∙◌}
use Prim.Native.Nat.{◌*◌}
use Rattle.pen.specs.declared.Words.{Words}
use Rattle.pen.specs.Words.{put_words, put_frequencies}
use Rattle.pen.proofs.calls.put_frequencies.Goals as goal

pub returns-then-d : goal.returns-then-d
unfolding put_frequencies
returns-then-d c =
    let a = c.args in
    rw c.if-d.true (c.put.ensures ∙ ap (λ (t : Words). put_words t 64 a.d.frequencies) c.put-list.ensures)

pub returns : goal.returns
unfolding put_frequencies
returns c =
    let a = c.args in
    rw c.if-d.false (c.put-2.ensures ∙ ap (λ (t : Words). put_words t (8 * a.d.length) a.d.frequencies) c.put-length.ensures)

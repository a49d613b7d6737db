-- `pen::put` meets its contract. Assumes nothing.
use mathlib.Core.Path.{sym, ◌∙◌}
use Rattle.pen.specs.Words.{whole}
use Rattle.pen.proofs.Numbers.{after-few, after-many, word-added, put_words_lem}
use native.Mathlib.Omega.{arith}
use Rattle.pen.proofs.put.Goals as goal

pub returns-then-width-lt64 : goal.returns-then-width-lt64
returns-then-width-lt64 c =
    let a = c.args in
    put_words_lem a.w c.shift.result a.width a.v (omega arith) (omega arith) (omega arith) (c.shift.ensures ∙ sym (after-few (whole a.w) a.width a.v (omega arith)))

pub returns-then-width-eq64 : goal.returns-then-width-eq64
returns-then-width-eq64 c =
    let a = c.args in
    put_words_lem a.w (record { a = a.w.b; b = a.w.c; c = a.v }) a.width a.v (omega arith) (omega arith) (omega arith)
    (word-added a.w.a a.w.b a.w.c a.width a.v c.if-width-eq64.true (omega arith) (omega arith) (omega arith))

pub returns : goal.returns
returns c =
    let a = c.args in
    put_words_lem a.w a.w a.width a.v (omega arith) (omega arith) (omega arith) (sym (after-many (whole a.w) a.width a.v (omega arith)))

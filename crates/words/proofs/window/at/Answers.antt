-- `words::window::at` meets its contract. Assumes nothing.
use mathlib.Core.Path.{sym, ap, ◌∙◌}
use Rattle.bits.specs.Field.{field}
use Rattle.words.specs.Inner.{Loaded}
use Rattle.words.proofs.Windows.{behind}
use native.Mathlib.Omega.{arith}
use Rattle.words.proofs.window.at.Goals as goal

pub returns-then-place-lt64 : goal.returns-then-place-lt64
returns-then-place-lt64 c =
    let a = c.args in
    let s = a.s.now in
    let l : Loaded a.w s = c.requires in
    c.funnel.ensures.1 s 0 l.first l.second ∙ ap (λ z. field s z 64) (omega arith)

pub returns-then-place-lt128 : goal.returns-then-place-lt128
returns-then-place-lt128 c =
    let a = c.args in
    let s = a.s.now in
    let l : Loaded a.w s = c.requires in
    c.funnel-then-place-lt128.ensures.1 s 64 l.second l.third ∙ ap (λ z. field s z 64) (omega arith)

pub returns-then-place-lt192 : goal.returns-then-place-lt192
returns-then-place-lt192 c =
    let a = c.args in
    let s = a.s.now in
    let l : Loaded a.w s = c.requires in
    c.funnel-then-place-lt192.ensures.1 s 128 l.third (sym (behind s 192 64 (omega (arith, l.short)))) ∙ ap (λ z. field s z 64) (omega arith)

pub returns : goal.returns
returns c =
    let a = c.args in
    let l : Loaded a.w a.s.now = c.requires in
    sym (behind a.s.now a.place 64 (omega (arith, l.short)))

-- `layout::sweep::sweep_place` meets its contract. Assumes nothing.
use mathlib.Core.Path.{sym, ◌∙◌}
use borrow.Author.Tests.{le-leb, lt-leb}
use Rattle.layout.proofs.Runs.{age-said, place-empty, place_out, place-taken, place-stays}
use Rattle.layout.proofs.sweep.sweep_place.Goals as goal

pub returns-then-b-i-eq0 : goal.returns-then-b-i-eq0
returns-then-b-i-eq0 c = let a = c.args in place-empty a.tick a.rule a.b.now a.i a.expired a.dropped c.if-b-i-eq0.true

pub returns-then-timer-elapsed : goal.returns-then-timer-elapsed
returns-then-timer-elapsed c =
    let a = c.args in
    let age = age-said a.tick a.b.now a.i _ _ _ c.requires.1.1.0 c.u32_at.ensures c.elapsed.ensures in
    let p = place_out a.tick a.rule a.b.now a.i a.expired a.dropped c.if-b-i-eq0.false (age ∙ le-leb _ _ c.if-timer-elapsed.true) in
    (p.0, (p.1.0, c.empty.ensures ∙ p.1.1))

pub returns-then-spared : goal.returns-then-spared
returns-then-spared c =
    let a = c.args in
    let age = age-said a.tick a.b.now a.i _ _ _ c.requires.1.1.0 c.u32_at.ensures c.elapsed.ensures in
    place-stays a.tick a.rule a.b.now a.i a.expired a.dropped c.if-b-i-eq0.false (age ∙ lt-leb _ _ c.if-timer-elapsed.false)
    (sym c.requires.1.1.1.0 ∙ c.if-spared.true)

pub returns : goal.returns
returns c =
    let a = c.args in
    let age = age-said a.tick a.b.now a.i _ _ _ c.requires.1.1.0 c.u32_at.ensures c.elapsed.ensures in
    let gone = sym c.requires.1.1.1.0 ∙ c.if-spared.false in
    let p = place-taken a.tick a.rule a.b.now a.i a.expired a.dropped c.if-b-i-eq0.false (age ∙ lt-leb _ _ c.if-timer-elapsed.false) gone in
    (p.0, (p.1.0, c.empty-2.ensures ∙ p.1.1))

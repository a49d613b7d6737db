-- `pch::sound` meets its contract. Assumes nothing.
use mathlib.Core.Path.{◌≡◌, sym, ◌∙◌}
use mathlib.Core.Bool.{true}
use Rattle.pch.specs.Entry.{flags_right, reference_right, numbers_right}
use Rattle.pch.proofs.sound.Goals as goal

pub returns-then-not-flags_right : goal.returns-then-not-flags_right
returns-then-not-flags_right c = rw (sym c.flags_right.ensures ∙ c.if-not-flags_right.true)

pub returns-then-not-reference_right : goal.returns-then-not-reference_right
returns-then-not-reference_right c =
    let flags' : flags_right c.args.numbers.now ≡ true = sym c.flags_right.ensures ∙ c.if-not-flags_right.false in
    rw (flags', sym c.reference_right.ensures ∙ c.if-not-reference_right.true)

pub returns-then-not-numbers_right : goal.returns-then-not-numbers_right
returns-then-not-numbers_right c =
    let flags' : flags_right c.args.numbers.now ≡ true = sym c.flags_right.ensures ∙ c.if-not-flags_right.false in
    let reference' : reference_right c.args.numbers.now ≡ true = sym c.reference_right.ensures ∙ c.if-not-reference_right.false in
    rw (
      flags',
      reference',
      sym c.numbers_right.ensures ∙ c.if-not-numbers_right.true,
    )

pub returns : goal.returns
returns c =
    let flags' : flags_right c.args.numbers.now ≡ true = sym c.flags_right.ensures ∙ c.if-not-flags_right.false in
    let reference' : reference_right c.args.numbers.now ≡ true = sym c.reference_right.ensures ∙ c.if-not-reference_right.false in
    let numbers' : numbers_right c.args.numbers.now ≡ true = sym c.numbers_right.ensures ∙ c.if-not-numbers_right.false in
    rw (flags', reference', numbers', c.behind.ensures)

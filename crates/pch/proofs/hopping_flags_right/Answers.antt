-- `pch::hopping_flags_right` meets its contract. Assumes nothing.
use mathlib.Core.Path.{◌≡◌, sym, ◌∙◌}
use mathlib.Core.Bool.{true}
use Rattle.pch.specs.Entry.{described_at, hopping_at, is_set, is_flag}
use Rattle.pch.proofs.hopping_flags_right.Goals as goal

pub returns-then-not-is_flag : goal.returns-then-not-is_flag
returns-then-not-is_flag c =
    let described' : is_set c.args.numbers.now described_at ≡ true = sym c.is_set.ensures ∙ c.if-is_set.true in
    rw (described', sym c.is_flag.ensures ∙ c.if-not-is_flag.true)

pub returns-then-is_set-2 : goal.returns-then-is_set-2
returns-then-is_set-2 c =
    let described' : is_set c.args.numbers.now described_at ≡ true = sym c.is_set.ensures ∙ c.if-is_set.true in
    let hopping' : is_flag c.args.numbers.now hopping_at ≡ true = sym c.is_flag.ensures ∙ c.if-not-is_flag.false in
    rw (
      described',
      hopping',
      sym c.is_set-then-is_set.ensures ∙ c.if-is_set-2.true,
    ) c.is_flag-then-is_set-2.ensures

pub returns-else-is_set-2 : goal.returns-else-is_set-2
returns-else-is_set-2 c =
    let described' : is_set c.args.numbers.now described_at ≡ true = sym c.is_set.ensures ∙ c.if-is_set.true in
    let hopping' : is_flag c.args.numbers.now hopping_at ≡ true = sym c.is_flag.ensures ∙ c.if-not-is_flag.false in
    rw (described', hopping', sym c.is_set-then-is_set.ensures ∙ c.if-is_set-2.false)

pub returns-else-is_set : goal.returns-else-is_set
returns-else-is_set c = rw (sym c.is_set.ensures ∙ c.if-is_set.false)

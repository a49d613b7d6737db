-- `pch::flags_right` meets its contract. Assumes nothing.
use mathlib.Core.Path.{◌≡◌, sym, ◌∙◌}
use mathlib.Core.Bool.{true}
use Rattle.pch.specs.Entry.{ciphered_at, full_at, described_at, given_at, counted_at, is_flag, flags_right}
use Rattle.pch.proofs.flags_right.Goals as goal

pub returns-then-not-is_flag : goal.returns-then-not-is_flag
unfolding flags_right
returns-then-not-is_flag c = rw (sym c.is_flag.ensures ∙ c.if-not-is_flag.true)

pub returns-then-not-is_flag-2 : goal.returns-then-not-is_flag-2
unfolding flags_right
returns-then-not-is_flag-2 c =
    let ciphered' : is_flag c.args.numbers.now ciphered_at ≡ true = sym c.is_flag.ensures ∙ c.if-not-is_flag.false in
    rw (ciphered', sym c.is_flag-2.ensures ∙ c.if-not-is_flag-2.true)

pub returns-then-not-is_flag-3 : goal.returns-then-not-is_flag-3
unfolding flags_right
returns-then-not-is_flag-3 c =
    let ciphered' : is_flag c.args.numbers.now ciphered_at ≡ true = sym c.is_flag.ensures ∙ c.if-not-is_flag.false in
    let full' : is_flag c.args.numbers.now full_at ≡ true = sym c.is_flag-2.ensures ∙ c.if-not-is_flag-2.false in
    rw (
      ciphered',
      full',
      sym c.is_flag-3.ensures ∙ c.if-not-is_flag-3.true,
    )

pub returns-then-not-is_flag-4 : goal.returns-then-not-is_flag-4
unfolding flags_right
returns-then-not-is_flag-4 c =
    let ciphered' : is_flag c.args.numbers.now ciphered_at ≡ true = sym c.is_flag.ensures ∙ c.if-not-is_flag.false in
    let full' : is_flag c.args.numbers.now full_at ≡ true = sym c.is_flag-2.ensures ∙ c.if-not-is_flag-2.false in
    let described' : is_flag c.args.numbers.now described_at ≡ true = sym c.is_flag-3.ensures ∙ c.if-not-is_flag-3.false in
    rw (
      ciphered',
      full',
      described',
      sym c.is_flag-4.ensures ∙ c.if-not-is_flag-4.true,
    )

pub returns-then-not-is_flag-5 : goal.returns-then-not-is_flag-5
unfolding flags_right
returns-then-not-is_flag-5 c =
    let ciphered' : is_flag c.args.numbers.now ciphered_at ≡ true = sym c.is_flag.ensures ∙ c.if-not-is_flag.false in
    let full' : is_flag c.args.numbers.now full_at ≡ true = sym c.is_flag-2.ensures ∙ c.if-not-is_flag-2.false in
    let described' : is_flag c.args.numbers.now described_at ≡ true = sym c.is_flag-3.ensures ∙ c.if-not-is_flag-3.false in
    let given' : is_flag c.args.numbers.now given_at ≡ true = sym c.is_flag-4.ensures ∙ c.if-not-is_flag-4.false in
    rw (
      ciphered',
      full',
      described',
      given',
      sym c.is_flag-5.ensures ∙ c.if-not-is_flag-5.true,
    )

pub returns : goal.returns
unfolding flags_right
returns c =
    let ciphered' : is_flag c.args.numbers.now ciphered_at ≡ true = sym c.is_flag.ensures ∙ c.if-not-is_flag.false in
    let full' : is_flag c.args.numbers.now full_at ≡ true = sym c.is_flag-2.ensures ∙ c.if-not-is_flag-2.false in
    let described' : is_flag c.args.numbers.now described_at ≡ true = sym c.is_flag-3.ensures ∙ c.if-not-is_flag-3.false in
    let given' : is_flag c.args.numbers.now given_at ≡ true = sym c.is_flag-4.ensures ∙ c.if-not-is_flag-4.false in
    let counted' : is_flag c.args.numbers.now counted_at ≡ true = sym c.is_flag-5.ensures ∙ c.if-not-is_flag-5.false in
    rw (
      ciphered',
      full',
      described',
      given',
      counted',
    ) c.hopping_flags_right.ensures

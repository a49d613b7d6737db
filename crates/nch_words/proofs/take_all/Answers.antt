-- `nch_words::take_all` meets its contract. Assumes nothing.
use mathlib.Core.Path.{◌≡◌, refl, ◌∙◌}
use lib.ListN.{length, length-set}
use Rattle.csn1.specs.Format.{no_refusal}
use Rattle.nch.proofs.FilledAll.{length-led, zeros-led, zeros-calls, zeros-six, few, all-filled}
use Rattle.words.proofs.Taken.{was_true}
use Rattle.words.proofs.Windows.{words_are}
use Rattle.nch_words.specs.Inner.{calls_done, six_done, list_done}
use Rattle.nch_words.proofs.Listing.{part_untaken}
use native.Mathlib.Omega.{arith}
use Rattle.nch_words.proofs.take_all.Goals as goal

pub returns-then-s-ne20 : goal.returns-then-s-ne20
returns-then-s-ne20 c = part_untaken _ c.no_part.ensures

pub bounds-numbers-2 : goal.bounds-numbers-2
bounds-numbers-2 c = simp length-set (omega (arith, c.requires.0))

pub take_calls-c-requires : goal.take_calls-c-requires
take_calls-c-requires c =
    let l = c.args.numbers.now in
    let n = c.read_flagged-nln.result in
    (words_are _ c.load-w.ensures c.if-s-ne20.false, (omega (arith, length-led l n, c.requires.0), zeros-led l n c.requires.1))

pub shape_of-numbers-then-not-c : goal.shape_of-numbers-then-not-c
shape_of-numbers-then-not-c c =
    let calls-length' : length c.take_calls-c.new.numbers ≡ length c.args.numbers.now = c.take_calls-c.auto.numbers ∙ length-led c.args.numbers.now c.read_flagged-nln.result in
    calls-length'

pub returns-then-not-c : goal.returns-then-not-c
returns-then-not-c c = part_untaken _ c.no_part-then-not-c.ensures

pub take_release6-six-requires : goal.take_release6-six-requires
take_release6-six-requires c =
    let calls-length' : length c.take_calls-c.new.numbers ≡ length c.args.numbers.now = c.take_calls-c.auto.numbers ∙ length-led c.args.numbers.now c.read_flagged-nln.result in
    let a = c.args in
    let t = c.if-s-ne20.false in (
      (words_are _ c.load-w.ensures t, c.take_calls-c.ensures.0),
      (
        omega (arith, calls-length', c.requires.0),
        zeros-calls a.s.now t a.numbers.now c.requires.1 c.read_flagged-nln.result c.read_flagged-nln.ensures (calls_done c.take_calls-c.result) _
            (c.take_calls-c.ensures.1 (was_true _ c.if-not-c.false)) refl,
      ),
    )

pub shape_of-numbers-then-not-six : goal.shape_of-numbers-then-not-six
shape_of-numbers-then-not-six c =
    let calls-length' : length c.take_calls-c.new.numbers ≡ length c.args.numbers.now = c.take_calls-c.auto.numbers ∙ length-led c.args.numbers.now c.read_flagged-nln.result in
    let six-length' : length c.take_release6-six.new.numbers ≡ length c.args.numbers.now = c.take_release6-six.auto.numbers ∙ calls-length' in
    six-length'

pub returns-then-not-six : goal.returns-then-not-six
returns-then-not-six c = part_untaken _ c.no_part-then-not-six.ensures

pub take_release7-seven-requires : goal.take_release7-seven-requires
take_release7-seven-requires c =
    let calls-length' : length c.take_calls-c.new.numbers ≡ length c.args.numbers.now = c.take_calls-c.auto.numbers ∙ length-led c.args.numbers.now c.read_flagged-nln.result in
    let six-length' : length c.take_release6-six.new.numbers ≡ length c.args.numbers.now = c.take_release6-six.auto.numbers ∙ calls-length' in
    let a = c.args in
    let t = c.if-s-ne20.false in
    let ec = c.take_calls-c.ensures.1 (was_true _ c.if-not-c.false) in
    let ea = c.take_release6-six.ensures.1 (was_true _ c.if-not-six.false) in (
      (words_are _ c.load-w.ensures t, c.take_release6-six.ensures.0),
      (
        omega (arith, six-length', c.requires.0),
        zeros-six a.s.now t a.numbers.now c.requires.1 c.read_flagged-nln.result c.read_flagged-nln.ensures (calls_done c.take_calls-c.result) _ ec refl
            (six_done c.take_release6-six.result) _ ea refl,
      ),
    )

pub shape_of-numbers-then-not-seven : goal.shape_of-numbers-then-not-seven
shape_of-numbers-then-not-seven c =
    let calls-length' : length c.take_calls-c.new.numbers ≡ length c.args.numbers.now = c.take_calls-c.auto.numbers ∙ length-led c.args.numbers.now c.read_flagged-nln.result in
    let six-length' : length c.take_release6-six.new.numbers ≡ length c.args.numbers.now = c.take_release6-six.auto.numbers ∙ calls-length' in
    let seven-length' : length c.take_release7-seven.new.numbers ≡ length c.args.numbers.now = c.take_release7-seven.auto.numbers ∙ six-length' in
    seven-length'

pub returns-then-not-seven : goal.returns-then-not-seven
returns-then-not-seven c = part_untaken _ c.no_part-then-not-seven.ensures

pub overflow_add-c : goal.overflow_add-c
overflow_add-c c =
    let a = c.args in
    let t = c.if-s-ne20.false in
    let ec = c.take_calls-c.ensures.1 (was_true _ c.if-not-c.false) in
    let ea = c.take_release6-six.ensures.1 (was_true _ c.if-not-six.false) in
    let ez = c.take_release7-seven.ensures.1 (was_true _ c.if-not-seven.false) in
    let e =
    few a.s.now t a.numbers.now c.requires.1 c.read_flagged-nln.result c.read_flagged-nln.ensures (calls_done c.take_calls-c.result) _ ec refl
    (six_done c.take_release6-six.result) _ ea refl (list_done c.take_release7-seven.result) _ ez refl in
    omega (arith, e)

pub shape_of-numbers-then-c-six : goal.shape_of-numbers-then-c-six
shape_of-numbers-then-c-six c =
    let calls-length' : length c.take_calls-c.new.numbers ≡ length c.args.numbers.now = c.take_calls-c.auto.numbers ∙ length-led c.args.numbers.now c.read_flagged-nln.result in
    let six-length' : length c.take_release6-six.new.numbers ≡ length c.args.numbers.now = c.take_release6-six.auto.numbers ∙ calls-length' in
    let seven-length' : length c.take_release7-seven.new.numbers ≡ length c.args.numbers.now = c.take_release7-seven.auto.numbers ∙ six-length' in
    seven-length'

pub returns-then-c-six : goal.returns-then-c-six
returns-then-c-six c = part_untaken _ c.no_part-then-c-six.ensures

pub shape_of-numbers-then-c-seven : goal.shape_of-numbers-then-c-seven
shape_of-numbers-then-c-seven c =
    let calls-length' : length c.take_calls-c.new.numbers ≡ length c.args.numbers.now = c.take_calls-c.auto.numbers ∙ length-led c.args.numbers.now c.read_flagged-nln.result in
    let six-length' : length c.take_release6-six.new.numbers ≡ length c.args.numbers.now = c.take_release6-six.auto.numbers ∙ calls-length' in
    let seven-length' : length c.take_release7-seven.new.numbers ≡ length c.args.numbers.now = c.take_release7-seven.auto.numbers ∙ six-length' in
    seven-length'

pub returns-then-c-seven : goal.returns-then-c-seven
returns-then-c-seven c = part_untaken _ c.no_part-then-c-seven.ensures

pub shape_of-numbers : goal.shape_of-numbers
shape_of-numbers c =
    let calls-length' : length c.take_calls-c.new.numbers ≡ length c.args.numbers.now = c.take_calls-c.auto.numbers ∙ length-led c.args.numbers.now c.read_flagged-nln.result in
    let six-length' : length c.take_release6-six.new.numbers ≡ length c.args.numbers.now = c.take_release6-six.auto.numbers ∙ calls-length' in
    let seven-length' : length c.take_release7-seven.new.numbers ≡ length c.args.numbers.now = c.take_release7-seven.auto.numbers ∙ six-length' in
    seven-length'

pub returns : goal.returns
returns c =
    let a = c.args in
    let t = c.if-s-ne20.false in
    let ec = c.take_calls-c.ensures.1 (was_true _ c.if-not-c.false) in
    let ea = c.take_release6-six.ensures.1 (was_true _ c.if-not-six.false) in
    let ez = c.take_release7-seven.ensures.1 (was_true _ c.if-not-seven.false) in
    λ d.
    all-filled a.s.now t a.numbers.now c.requires.1 c.read_flagged-nln.result c.read_flagged-nln.ensures (calls_done c.take_calls-c.result) _ ec refl
    (six_done c.take_release6-six.result) _ ea refl (list_done c.take_release7-seven.result) _ ez refl
    (omega (arith, c.if-c-six.false)) (omega (arith, c.if-c-seven.false)) no_refusal refl

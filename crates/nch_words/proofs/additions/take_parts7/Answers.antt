-- `nch_words::additions::take_parts7` meets its contract. Assumes nothing.
use mathlib.Core.Path.{◌≡◌, ◌∙◌}
use lib.ListN.{length, length-set}
use Rattle.bits.specs.Field.{field}
use Rattle.nch.specs.Places.{release7_at}
use Rattle.nch.proofs.Filled7.{zeros_led7}
use Rattle.words.proofs.Taken.{was_true}
use Rattle.words.proofs.Windows.{seen}
use Rattle.nch_words.proofs.Listing.{list_untaken}
use Rattle.nch_words.proofs.Adding.{zeros-marks, seven-done}
use native.Mathlib.Omega.{arith}
use Rattle.nch_words.proofs.additions.take_parts7.Goals as goal

pub take_marks-m-requires : goal.take_marks-m-requires
take_marks-m-requires c =
    (c.requires.0, (simp length-set (omega (arith, c.requires.1.0)), zeros_led7 c.args.numbers.now c.requires.1.1))

pub shape_of-numbers-then-not-m : goal.shape_of-numbers-then-not-m
shape_of-numbers-then-not-m c =
    let marks-length' : length c.take_marks-m.new.numbers ≡ length c.args.numbers.now = c.take_marks-m.auto.numbers ∙ length-set c.args.numbers.now release7_at 1 in
    marks-length'

pub returns-then-not-m : goal.returns-then-not-m
returns-then-not-m c = list_untaken _ c.no_list.ensures

pub put_flagged-u-requires : goal.put_flagged-u-requires
put_flagged-u-requires c =
    let marks-length' : length c.take_marks-m.new.numbers ≡ length c.args.numbers.now = c.take_marks-m.auto.numbers ∙ length-set c.args.numbers.now release7_at 1 in (
      (omega arith, omega arith),
      (
        omega (arith, marks-length', c.requires.1.0),
        zeros-marks c.args.s.now c.requires.0.long c.args.at c.args.numbers.now c.requires.1.1 c.take_marks-m.result _ (c.take_marks-m.ensures.1 (was_true _ c.if-not-m.false)),
      ),
    )

pub put_amr-a-requires : goal.put_amr-a-requires
put_amr-a-requires c =
    let marks-length' : length c.take_marks-m.new.numbers ≡ length c.args.numbers.now = c.take_marks-m.auto.numbers ∙ length-set c.args.numbers.now release7_at 1 in
    (omega (arith, c.put_flagged-u.ensures.1.0), (omega (arith, c.put_flagged-u.auto.numbers, marks-length', c.requires.1.0), c.put_flagged-u.ensures.1.1.0))

pub put_sms-t-requires : goal.put_sms-t-requires
put_sms-t-requires c =
    let marks-length' : length c.take_marks-m.new.numbers ≡ length c.args.numbers.now = c.take_marks-m.auto.numbers ∙ length-set c.args.numbers.now release7_at 1 in (
      omega (arith, c.put_flagged-u.ensures.1.0, c.put_amr-a.ensures.1.0),
      (omega (arith, c.put_amr-a.auto.numbers, c.put_flagged-u.auto.numbers, marks-length', c.requires.1.0), c.put_amr-a.ensures.1.1.0),
    )

pub overflow_add-next : goal.overflow_add-next
overflow_add-next c =
    omega (arith, c.put_sms-t.ensures.1.0, c.put_amr-a.ensures.1.0, c.put_flagged-u.ensures.1.0, c.take_marks-m.ensures.0)

pub shape_of-numbers-then-next-gt160 : goal.shape_of-numbers-then-next-gt160
shape_of-numbers-then-next-gt160 c =
    let marks-length' : length c.take_marks-m.new.numbers ≡ length c.args.numbers.now = c.take_marks-m.auto.numbers ∙ length-set c.args.numbers.now release7_at 1 in
    c.put_sms-t.auto.numbers ∙ c.put_amr-a.auto.numbers ∙ c.put_flagged-u.auto.numbers ∙ marks-length'

pub returns-then-next-gt160 : goal.returns-then-next-gt160
returns-then-next-gt160 c = list_untaken _ c.no_list-then-next-gt160.ensures

pub shape_of-numbers : goal.shape_of-numbers
shape_of-numbers c =
    let marks-length' : length c.take_marks-m.new.numbers ≡ length c.args.numbers.now = c.take_marks-m.auto.numbers ∙ length-set c.args.numbers.now release7_at 1 in
    c.put_sms-t.auto.numbers ∙ c.put_amr-a.auto.numbers ∙ c.put_flagged-u.auto.numbers ∙ marks-length'

pub returns : goal.returns
returns c =
    let window' : c.at-x.result ≡ field c.args.s.now c.take_marks-m.result.at 64 = seen c.at-x.ensures (omega (arith, c.take_marks-m.ensures.0)) c.args.s.now c.requires.0 in
    let a = c.args in
    let u = c.put_flagged-u.ensures in
    let r = c.put_amr-a.ensures in
    let t = c.put_sms-t.ensures in (
      omega arith,
      λ d.
          seven-done a.s.now c.requires.0.long a.at a.numbers.now c.requires.1.1 c.take_marks-m.result _ (c.take_marks-m.ensures.1 (was_true _ c.if-not-m.false))
          c.at-x.result window' _ _ (u.1.1.1 a.s.now c.take_marks-m.result.at window') _ _ r _ _ t (omega arith),
    )

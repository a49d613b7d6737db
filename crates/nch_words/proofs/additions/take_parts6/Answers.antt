-- `nch_words::additions::take_parts6` meets its contract. Assumes nothing.
use mathlib.Core.Path.{◌≡◌, ◌∙◌}
use lib.ListN.{length-set}
use Rattle.bits.specs.Field.{field}
use Rattle.nch.specs.Places.{release6_at}
use Rattle.words.proofs.Taken.{was_true}
use Rattle.words.proofs.Windows.{seen}
use Rattle.nch_words.proofs.Puts.{zeros-next}
use Rattle.nch_words.proofs.Listing.{six_untaken}
use Rattle.nch_words.proofs.Adding.{zeros_reduceds, six-done}
use native.Mathlib.Omega.{arith}
use Rattle.nch_words.proofs.additions.take_parts6.Goals as goal

pub returns-then-at-gt157 : goal.returns-then-at-gt157
returns-then-at-gt157 c = six_untaken _ c.no_six.ensures

pub put_flagged-c-requires : goal.put_flagged-c-requires
put_flagged-c-requires c =
    ((omega arith, omega arith), (simp length-set (omega (arith, c.requires.1.0)), zeros-next c.args.numbers.now release6_at 1 c.requires.1.1))

pub overflow_add-at : goal.overflow_add-at
overflow_add-at c = omega (arith, c.put_flagged-c.ensures.1.0)

pub take_reduceds-d-requires : goal.take_reduceds-d-requires
take_reduceds-d-requires c =
    (c.requires.0, (omega (arith, c.put_flagged-c.auto.numbers ∙ length-set c.args.numbers.now release6_at 1, c.requires.1.0), c.put_flagged-c.ensures.1.1.0))

pub shape_of-numbers-then-not-d : goal.shape_of-numbers-then-not-d
shape_of-numbers-then-not-d c =
    c.take_reduceds-d.auto.numbers ∙ c.put_flagged-c.auto.numbers ∙ length-set c.args.numbers.now release6_at 1

pub returns-then-not-d : goal.returns-then-not-d
returns-then-not-d c = six_untaken _ c.no_six-then-not-d.ensures

pub take_randoms-e-requires : goal.take_randoms-e-requires
take_randoms-e-requires c =
    let window' : c.at-x.result ≡ field c.args.s.now c.args.at 64 = seen c.at-x.ensures (omega (arith, c.if-at-gt157.false)) c.args.s.now c.requires.0 in
    let a = c.args in
    let n = c.take_reduceds-d.auto.numbers ∙ c.put_flagged-c.auto.numbers ∙ length-set a.numbers.now release6_at 1 in
    let y = c.put_flagged-c.ensures.1.1.1 a.s.now a.at window' in (
      c.requires.0,
      (
        omega (arith, n, c.requires.1.0),
        zeros_reduceds a.s.now c.requires.0.long a.at a.numbers.now c.requires.1.1 _ _ y (omega (arith, c.put_flagged-c.ensures.1.0, c.if-at-gt157.false))
            c.take_reduceds-d.result _ (c.take_reduceds-d.ensures.1 (was_true _ c.if-not-d.false)),
      ),
    )

pub shape_of-numbers-then-not-e : goal.shape_of-numbers-then-not-e
shape_of-numbers-then-not-e c =
    let l = c.args.numbers.now in
    c.take_randoms-e.auto.numbers ∙ c.take_reduceds-d.auto.numbers ∙ c.put_flagged-c.auto.numbers ∙ length-set l release6_at 1

pub returns-then-not-e : goal.returns-then-not-e
returns-then-not-e c = six_untaken _ c.no_six-then-not-e.ensures

pub shape_of-numbers : goal.shape_of-numbers
shape_of-numbers c =
    let l = c.args.numbers.now in
    c.take_randoms-e.auto.numbers ∙ c.take_reduceds-d.auto.numbers ∙ c.put_flagged-c.auto.numbers ∙ length-set l release6_at 1

pub returns : goal.returns
returns c =
    let window' : c.at-x.result ≡ field c.args.s.now c.args.at 64 = seen c.at-x.ensures (omega (arith, c.if-at-gt157.false)) c.args.s.now c.requires.0 in
    let a = c.args in
    let o = c.put_flagged-c.ensures in
    let y = o.1.1.1 a.s.now a.at window' in (
      c.take_randoms-e.ensures.0,
      λ z.
          six-done a.s.now c.requires.0.long a.at a.numbers.now c.requires.1.1 _ _ y (omega (arith, o.1.0, c.if-at-gt157.false))
          c.take_reduceds-d.result _ (c.take_reduceds-d.ensures.1 (was_true _ c.if-not-d.false)) c.take_randoms-e.result _ (c.take_randoms-e.ensures.1 (was_true _ c.if-not-e.false)),
    )

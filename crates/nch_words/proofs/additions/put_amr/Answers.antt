-- `nch_words::additions::put_amr` meets its contract. Assumes nothing.
use mathlib.Core.Path.{refl, ◌∙◌}
use lib.ListN.{length-set}
use Rattle.arrays.proofs.Zeroed.{zeros-later}
use Rattle.nch.specs.Octets.{amr}
use Rattle.nch.specs.Places.{amr_at, sms_at}
use Rattle.nch.specs.Inner.{amr_run}
use Rattle.nch_words.proofs.Puts.{zeros-next}
use Rattle.nch_words.proofs.Adding.{part_none, amr-some}
use native.Mathlib.Omega.{arith}
use Rattle.nch_words.proofs.additions.put_amr.Goals as goal

pub returns-then-part-eq0 : goal.returns-then-part-eq0
returns-then-part-eq0 c =
    let a = c.args in (
      omega arith,
      (
        omega arith,
        (
          zeros-later a.numbers.now amr_at sms_at (omega arith) c.requires.1.1,
          λ s p e h. part_none amr amr_run amr_at 5 refl s p a.from _ (c.part.ensures s p e) c.if-part-eq0.true a.numbers.now c.requires.1.1 h,
        ),
      ),
    )

pub put_flagged-half-requires : goal.put_flagged-half-requires
put_flagged-half-requires c =
    ((omega arith, omega (arith, c.requires.0)), (simp length-set (omega (arith, c.requires.1.0)), zeros-next c.args.numbers.now amr_at 1 c.requires.1.1))

pub put_flagged-requires : goal.put_flagged-requires
put_flagged-requires c = (
  (omega arith, omega (arith, c.put_flagged-half.ensures.1.0, c.requires.0)),
  (omega (arith, c.put_flagged-half.auto.numbers ∙ length-set c.args.numbers.now amr_at 1, c.requires.1.0), c.put_flagged-half.ensures.1.1.0),
)

pub shape_of-numbers : goal.shape_of-numbers
shape_of-numbers c =
    c.put_flagged.auto.numbers ∙ c.put_flagged-half.auto.numbers ∙ length-set c.args.numbers.now amr_at 1

pub returns : goal.returns
returns c =
    let a = c.args in
    let f = c.put_flagged-half.ensures in
    let g = c.put_flagged.ensures in (
      omega (arith, f.0, g.0),
      (
        omega (arith, f.1.0, g.1.0),
        (
          g.1.1.0,
          λ s p e h. amr-some s p a.from _ (c.part.ensures s p e) c.if-part-eq0.false a.numbers.now _ _ _ _ (f.1.1.1 s p e) (g.1.1.1 s p e) h,
        ),
      ),
    )

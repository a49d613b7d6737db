-- `nch_words::additions::put_sms` meets its contract. Assumes nothing.
use mathlib.Core.Path.{refl}
use lib.ListN.{length-set}
use Rattle.nch.specs.Octets.{sms_bits}
use Rattle.nch.specs.Places.{sms_at}
use Rattle.nch.specs.Inner.{sms_run}
use Rattle.nch_words.proofs.Adding.{part_none, sms_some}
use native.Mathlib.Omega.{arith}
use Rattle.nch_words.proofs.additions.put_sms.Goals as goal

pub returns-then-part-eq0 : goal.returns-then-part-eq0
returns-then-part-eq0 c =
    let a = c.args in (
      omega arith,
      (
        omega arith,
        λ s p e h. part_none sms_bits sms_run sms_at 3 refl s p a.from _ (c.part.ensures s p e) c.if-part-eq0.true a.numbers.now c.requires.1.1 h,
      ),
    )

pub bounds-numbers-104 : goal.bounds-numbers-104
bounds-numbers-104 c = simp length-set (omega (arith, c.requires.1.0))

pub returns : goal.returns
returns c =
    let a = c.args in (
      omega arith,
      (
        omega arith,
        λ s p e h.
            sms_some s p a.from _ (c.part.ensures s p e) c.if-part-eq0.false _ _
            (c.part-2.ensures s p e) (c.part-3.ensures s p e) a.numbers.now h,
      ),
    )

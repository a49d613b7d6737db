-- `nch_words::additions::take_release7` meets its contract. Assumes nothing.
use mathlib.Core.Path.{refl}
use Rattle.csn1.specs.Format.{no_refusal}
use Rattle.csn1.specs.Grammar.{format}
use Rattle.arrays.proofs.Zeroed.{release-left-none, release-left-some}
use Rattle.nch.specs.Octets.{release7}
use Rattle.nch.specs.Places.{release7_at}
use Rattle.nch.specs.Inner.{release7_passed, release7_run}
use Rattle.nch.proofs.Ends.{release7_length}
use Rattle.nch.proofs.Filled7.{no_numbers7}
use Rattle.words.proofs.Taken.{was_false, was_true}
use native.Mathlib.Omega.{arith}
use Rattle.nch_words.proofs.additions.take_release7.Goals as goal

pub returns-then-not-l : goal.returns-then-not-l
returns-then-not-l c =
    let a = c.args in (
      c.take_lead-l.ensures.0,
      λ d.
          release-left-none (format release7) release7_passed release7_run release7_at a.s.now a.at (omega (arith, c.requires.0.0.long))
          (record { refusal = no_refusal; high = c.take_lead-l.result.high; at = c.take_lead-l.result.at }) c.take_lead-l.ensures.1 refl (was_false _ c.if-not-l.true) _ refl
          release7_length no_numbers7 a.numbers.now c.requires.1.1,
    )

pub returns : goal.returns
returns c =
    let a = c.args in
    let o = c.take_parts7.ensures in (
      o.0,
      λ d.
          release-left-some (format release7) release7_passed release7_run release7_at a.s.now a.at (omega (arith, c.requires.0.0.long))
          (record { refusal = no_refusal; high = c.take_lead-l.result.high; at = c.take_lead-l.result.at }) c.take_lead-l.ensures.1 refl (was_true _ c.if-not-l.false) _ _ _ (o.1 d),
    )

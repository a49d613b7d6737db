-- `nch_words::additions::take_release6` meets its contract. Assumes nothing.
use mathlib.Core.Path.{refl}
use Rattle.csn1.specs.Format.{no_refusal}
use Rattle.csn1.specs.Grammar.{format}
use Rattle.arrays.proofs.Zeroed.{release-left-none, release-left-some}
use Rattle.nch.specs.Octets.{release6}
use Rattle.nch.specs.Places.{release6_at}
use Rattle.nch.specs.Inner.{release6_passed, release6_run}
use Rattle.nch.proofs.Ends.{release6_length}
use Rattle.nch.proofs.Filled6.{no_numbers6}
use Rattle.words.proofs.Taken.{was_false, was_true}
use native.Mathlib.Omega.{arith}
use Rattle.nch_words.proofs.additions.take_release6.Goals as goal

pub returns-then-not-l : goal.returns-then-not-l
returns-then-not-l c =
    let a = c.args in (
      c.take_lead-l.ensures.0,
      λ d.
          release-left-none (format release6) release6_passed release6_run release6_at a.s.now a.at (omega (arith, c.requires.0.0.long))
          (record { refusal = no_refusal; high = c.take_lead-l.result.high; at = c.take_lead-l.result.at }) c.take_lead-l.ensures.1 refl (was_false _ c.if-not-l.true) _ refl
          release6_length no_numbers6 a.numbers.now c.requires.1.1,
    )

pub returns : goal.returns
returns c =
    let a = c.args in
    let o = c.take_parts6.ensures in (
      o.0,
      λ d.
          release-left-some (format release6) release6_passed release6_run release6_at a.s.now a.at (omega (arith, c.requires.0.0.long))
          (record { refusal = no_refusal; high = c.take_lead-l.result.high; at = c.take_lead-l.result.at }) c.take_lead-l.ensures.1 refl (was_true _ c.if-not-l.false) _ _ _ (o.1 d),
    )

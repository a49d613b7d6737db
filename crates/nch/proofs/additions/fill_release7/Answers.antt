-- `nch::additions::fill_release7` meets its contract. Assumes nothing.
use mathlib.Core.Path.{ap}
use borrow.Author.Tests.{not-true, not-false}
use Rattle.csn1.specs.declared.Refusal.{Refusal}
use Rattle.csn1.specs.Grammar.{format}
use Rattle.arrays.proofs.Zeroed.{release-left-bad, release-left-none, release-left-some}
use Rattle.nch.specs.Octets.{release7}
use Rattle.nch.specs.Places.{release7_at}
use Rattle.nch.specs.Inner.{release7_passed, release7_run}
use Rattle.nch.proofs.Ends.{release7_length}
use Rattle.nch.proofs.Filled7.{no_numbers7}
use Rattle.nch.proofs.additions.fill_release7.Goals as goal

pub returns-then-l-ne0 : goal.returns-then-l-ne0
returns-then-l-ne0 c =
    let a = c.args in
    release-left-bad (format release7) release7_passed release7_run release7_at a.s.now a.at c.requires.0 c.read_lead-l.result c.read_lead-l.ensures c.if-l-ne0.true _ c.no_list.ensures _ _

pub returns-then-not-l : goal.returns-then-not-l
returns-then-not-l c =
    let a = c.args in
    release-left-none (format release7) release7_passed release7_run release7_at a.s.now a.at c.requires.0 c.read_lead-l.result c.read_lead-l.ensures c.if-l-ne0.false
    (not-true _ c.if-not-l.true) _
    (ap (λ (r : Refusal). record { refusal = r; count = 0; at = c.read_lead-l.result.at }) c.no_refusal.ensures) release7_length no_numbers7 a.numbers.now c.requires.1.1

pub fill_parts7-requires : goal.fill_parts7-requires
fill_parts7-requires c = c.requires

pub returns : goal.returns
returns c =
    let a = c.args in
    release-left-some (format release7) release7_passed release7_run release7_at a.s.now a.at c.requires.0 c.read_lead-l.result c.read_lead-l.ensures
    c.if-l-ne0.false (not-false _ c.if-not-l.false) _ _ _ c.fill_parts7.ensures

-- `facch::additions::read_release7` meets its contract. Assumes nothing.
use mathlib.Core.Path.{sym, ap, ap₂, ◌∙◌}
use borrow.Author.Tests.{not-true, not-false}
use Rattle.csn1.specs.declared.Refusal.{Refusal}
use Rattle.csn1.specs.Format.{bad, release}
use Rattle.csn1.specs.Grammar.{format}
use Rattle.csn1.proofs.Reading.{read_at, read-long}
use Rattle.csn1.proofs.Callees.{release-refused, release-absent, release-there}
use Rattle.facch.specs.declared.Release7.{Release7}
use Rattle.facch.specs.Message.{release7}
use Rattle.facch.specs.Parts.{release7_at_of}
use native.Mathlib.Omega.{arith}
use Rattle.facch.proofs.additions.read_release7.Goals as goal

pub returns-then-s-gt-LONGEST : goal.returns-then-s-gt-LONGEST
returns-then-s-gt-LONGEST c =
    let a = c.args in
    c.refused_release7.ensures ∙ ap (λ (r : Refusal). release7_at_of (bad r)) c.ran_out.ensures
    ∙ sym (ap release7_at_of (read-long (release (format release7)) a.s.now a.at (omega arith)))

pub returns-then-l-ne0 : goal.returns-then-l-ne0
returns-then-l-ne0 c =
    let a = c.args in
    c.refused_release7-then-l-ne0.ensures
    ∙ sym (ap release7_at_of (read_at (release (format release7)) a.s.now a.at (omega arith)
    ∙ release-refused (format release7) a.s.now a.at (omega arith) c.read_lead-l.result c.read_lead-l.ensures c.if-l-ne0.true))

pub returns-then-not-l : goal.returns-then-not-l
returns-then-not-l c =
    let a = c.args in
    ap₂ (λ (r : Refusal) (x : Release7). record { refusal = r; release = x; at = c.read_lead-l.result.at }) c.no_refusal.ensures c.no_release7.ensures
    ∙ sym (ap release7_at_of (read_at (release (format release7)) a.s.now a.at (omega arith)
    ∙ release-absent (format release7) a.s.now a.at (omega arith) c.read_lead-l.result c.read_lead-l.ensures c.if-l-ne0.false (not-true _ c.if-not-l.true)))

pub returns : goal.returns
returns c =
    let a = c.args in
    c.read_parts7.ensures
    ∙ sym (ap release7_at_of (read_at (release (format release7)) a.s.now a.at (omega arith)
    ∙ release-there (format release7) a.s.now a.at (omega arith) c.read_lead-l.result c.read_lead-l.ensures c.if-l-ne0.false (not-false _ c.if-not-l.false)))

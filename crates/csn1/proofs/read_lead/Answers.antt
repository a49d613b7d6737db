-- `csn1::read_lead` meets its contract. Assumes nothing.
use mathlib.Core.Path.{sym, ap, ◌∙◌}
use lib.ListN.{length}
use mathlib.Core.Bool.{false}
use borrow.Author.Tests.{lt-leb}
use Rattle.csn1.specs.Format.{bad, coded}
use Rattle.csn1.specs.declared.Refusal.{Refusal}
use Rattle.csn1.specs.Told.{lead_of, coded_of}
use Rattle.csn1.proofs.Reading.{read_at, lead-at, lead-used, lead-coded}
use native.Mathlib.Omega.{arith}
use Rattle.csn1.proofs.read_lead.Goals as goal

pub returns-then-s-gt-LONGEST : goal.returns-then-s-gt-LONGEST
returns-then-s-gt-LONGEST c =
    let a = c.args in
    c.no_lead.ensures ∙ ap (λ (r : Refusal). lead_of (bad r)) c.ran_out.ensures ∙ rw (lt-leb (length a.s.now) 4096 (omega arith))

pub returns-then-at-s : goal.returns-then-at-s
returns-then-at-s c =
    let a = c.args in
    ap (λ (r : Refusal). record { refusal = r; high = false; at = a.at }) c.no_refusal.ensures
    ∙ sym (ap lead_of (lead-at a.s.now a.at (omega arith) ∙ lead-used a.s.now a.at c.if-at-s.true))

pub returns : goal.returns
returns c =
    let a = c.args in
    c.read_coded.ensures ∙ ap coded_of (read_at coded a.s.now a.at (omega arith))
    ∙ sym (ap lead_of (lead-at a.s.now a.at (omega arith)) ∙ lead-coded a.s.now a.at c.if-at-s.false)

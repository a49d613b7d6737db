-- `steps::meeting::meet` meets its contract. Assumes nothing.
use mathlib.Core.Path.{sym, ◌∙◌}
use Rattle.receiver.proofs.Classes.{meet_whole, meet_none, meet_first, meet_second, meet_early, meet_stored}
use mathlib.Core.Logic.{inl, inr}
use native.Mathlib.Omega.{arith}
use Rattle.steps.proofs.meeting.meet.Goals as goal
use Rattle.steps.proofs.meeting.meet.Goals.{else-c-eq4-via-then-c-eq4+else-not-leads, else-c-eq4-via-else-c-eq4}

pub returns-then-c-lt3 : goal.returns-then-c-lt3
returns-then-c-lt3 c = meet_whole _ _ _ _ _ c.class-c.ensures c.if-c-lt3.true

pub returns-then-c-gt4 : goal.returns-then-c-gt4
returns-then-c-gt4 c = c.only_number.ensures ∙ meet_none _ _ _ _ _ c.class-c.ensures c.if-c-gt4.true

pub returns-then-c-eq3 : goal.returns-then-c-eq3
returns-then-c-eq3 c =
    let k = c.class-c.ensures in
    rw (c.meet_half.ensures, c.join.ensures) (meet_first _ _ _ _ (sym c.if-c-eq3.true ∙ k) c.if-held-ne0.true)

pub returns-then-held-ne0 : goal.returns-then-held-ne0
returns-then-held-ne0 c =
    let k = c.class-c.ensures in
    rw (c.meet_half-then-held-ne0.ensures, c.join-then-held-ne0.ensures) (meet_second _ _ _ _ (omega arith) c.if-held-ne0.true)

pub returns-then-not-leads : goal.returns-then-not-leads
returns-then-not-leads c =
    let k = c.class-c.ensures in
    c.only_number-then-not-leads.ensures
    ∙ meet_early _ _ _ _ (sym c.if-c-eq4.true ∙ k) c.if-held-ne0.false
    (sym c.leads.ensures ∙ c.if-not-leads.true)

pub returns : goal.returns
returns c =
    let k = c.class-c.ensures in
    c.only_number-2.ensures
    ∙ meet_stored _ _ _ _ _ k c.if-held-ne0.false
    (elim c.else-c-eq4.branch [ else-c-eq4-via-then-c-eq4+else-not-leads w ↦ inr (w.if-c-eq4.true, sym w.leads.ensures ∙ w.if-not-leads.false) | else-c-eq4-via-else-c-eq4 w ↦ inl (omega arith) ])

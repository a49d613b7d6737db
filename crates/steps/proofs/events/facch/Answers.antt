-- `steps::events::facch` meets its contract. Assumes nothing.
use mathlib.Core.Path.{sym, ap, ◌∙◌}
use native.Mathlib.Omega.{arith}
use Rattle.facch.specs.declared.Reading.{Reading as Facch}
use Rattle.receiver.specs.declared.Answer.{Answer}
use Rattle.receiver.specs.Step.{heardFacch}
use Rattle.steps.proofs.Entering.{is-late, is-refused, is-few, is-accepted, paging}
use Rattle.steps.proofs.events.facch.Goals as goal

pub returns-then-is_late : goal.returns-then-is_late
returns-then-is_late c =
    c.refused.ensures ∙ is-late _ _ (heardFacch c.args.octets.now) c.is_late.ensures c.if-is_late.true c.ground.ensures

pub returns-then-m-ne0 : goal.returns-then-m-ne0
returns-then-m-ne0 c =
    c.refused-then-m-ne0.ensures
    ∙ is-refused _ _ (heardFacch c.args.octets.now) c.is_late.ensures c.if-is_late.false (ap (λ (x : Facch). x.refusal) c.read-m.ensures) c.if-m-ne0.true

pub accepted-a-requires : goal.accepted-a-requires
accepted-a-requires c =
    let z = ap (λ (x : Facch). x.refusal.number) (sym c.read-m.ensures) ∙ c.if-m-ne0.false in (
      omega arith,
      is-few c.args.r _ (heardFacch c.args.octets.now) c.is_late.ensures c.if-is_late.false z
          (rw c.read-m.ensures at c.facch_entries.ensures),
    )

pub returns : goal.returns
returns c =
    let a = c.args in
    let z = ap (λ (x : Facch). x.refusal.number) (sym c.read-m.ensures) ∙ c.if-m-ne0.false in
    ap (λ (x : Answer). paging x c.paged_of-a.result) c.accepted-a.ensures
    ∙ is-accepted a.r _ (heardFacch a.octets.now) c.is_late.ensures c.if-is_late.false z (rw c.read-m.ensures at c.facch_entries.ensures)
    c.keep.ensures (rw c.read-m.ensures at c.taken_over-cell.ensures) (rw c.read-m.ensures at c.paged_of-a.ensures)

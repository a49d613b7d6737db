-- `steps::events::nch` meets its contract. Assumes nothing.
use mathlib.Core.Path.{refl, sym, ap, ◌∙◌}
use native.Mathlib.Omega.{arith}
use Rattle.nch.specs.declared.Reading.{Reading as Nch}
use Rattle.receiver.specs.declared.Cell.{Cell}
use Rattle.receiver.specs.Count.{counting, cell_with}
use Rattle.receiver.specs.Step.{heardNch, numbering, rule_by}
use Rattle.receiver.proofs.Entering.{numbering_rule}
use Rattle.steps.proofs.Entering.{is-late, is-refused, is-few, is-accepted}
use Rattle.steps.proofs.events.nch.Goals as goal

pub returns-then-is_late : goal.returns-then-is_late
returns-then-is_late c =
    c.refused.ensures ∙ is-late _ _ (heardNch c.args.octets.now) c.is_late.ensures c.if-is_late.true c.ground.ensures

pub returns-then-m-ne0 : goal.returns-then-m-ne0
returns-then-m-ne0 c =
    c.refused-then-m-ne0.ensures
    ∙ is-refused _ _ (heardNch c.args.octets.now) c.is_late.ensures c.if-is_late.false (ap (λ (x : Nch). x.refusal) c.read-m.ensures) c.if-m-ne0.true

pub accepted-requires : goal.accepted-requires
accepted-requires c =
    let z = ap (λ (x : Nch). x.refusal.number) (sym c.read-m.ensures) ∙ c.if-m-ne0.false in (
      omega arith,
      is-few c.args.r _ (heardNch c.args.octets.now) c.is_late.ensures c.if-is_late.false z
          (rw c.read-m.ensures at c.nch_entries.ensures),
    )

pub returns : goal.returns
returns c =
    let a = c.args in
    let z = ap (λ (x : Nch). x.refusal.number) (sym c.read-m.ensures) ∙ c.if-m-ne0.false in
    let n = c.read-m.result.«record» in
    let cell = c.taken-cell.ensures ∙ ap (λ (l : Cell). cell_with l (counting n.release6.hasCount n.release6.cellcount)) c.nln_cell-cell.ensures in
    let rule = numbering_rule a.r n.hasNln n.nln ∙ ap (λ (x : Nch). rule_by a.r (numbering x.«record».hasNln x.«record».nln)) c.read-m.ensures in
    c.accepted.ensures
    ∙ is-accepted a.r _ (heardNch a.octets.now) c.is_late.ensures c.if-is_late.false z (rw c.read-m.ensures at c.nch_entries.ensures)
    (c.nln_rule-rule.ensures ∙ rule) (rw c.read-m.ensures at cell) refl

-- `steps::events::pch` meets its contract. Assumes nothing.
use mathlib.Core.Path.{refl, sym, ap, ◌∙◌}
use native.Mathlib.Omega.{arith}
use Rattle.pch.specs.declared.Reading.{Reading as Pch}
use Rattle.receiver.specs.Channels.{has_pages}
use Rattle.receiver.specs.Model.{key_of, keys_of, index_of, rule_for}
use Rattle.receiver.specs.Step.{heard_pch}
use Rattle.steps.proofs.Entering.{is-late, is-refused, is-few, is-accepted}
use Rattle.steps.proofs.events.pch.Goals as goal

pub returns-then-is_late : goal.returns-then-is_late
returns-then-is_late c =
    c.refused.ensures ∙ is-late _ _ (heard_pch c.args.numbers.now) c.is_late.ensures c.if-is_late.true c.ground.ensures

pub returns-then-m-ne0 : goal.returns-then-m-ne0
returns-then-m-ne0 c =
    c.refused-then-m-ne0.ensures
    ∙ is-refused _ _ (heard_pch c.args.numbers.now) c.is_late.ensures c.if-is_late.false (ap (λ (x : Pch). x.refusal) c.read-m.ensures) c.if-m-ne0.true

pub accepted-requires : goal.accepted-requires
accepted-requires c =
    let z = ap (λ (x : Pch). x.refusal.number) (sym c.read-m.ensures) ∙ c.if-m-ne0.false in (
      omega arith,
      is-few c.args.r _ (heard_pch c.args.numbers.now) c.is_late.ensures c.if-is_late.false z
          (rw c.read-m.ensures at c.pch_entries.ensures),
    )

pub returns : goal.returns
returns c =
    let a = c.args in
    let z = ap (λ (x : Pch). x.refusal.number) (sym c.read-m.ensures) ∙ c.if-m-ne0.false in
    let k = c.key_of.ensures ∙ ap (λ (x : Pch). key_of x.«record».call) c.read-m.ensures in
    c.accepted.ensures
    ∙ is-accepted a.r _ (heard_pch a.numbers.now) c.is_late.ensures c.if-is_late.false z (rw c.read-m.ensures at c.pch_entries.ensures)
    (c.page_rule.ensures ∙ ap (rule_for has_pages) (c.index_of-but.ensures ∙ ap (index_of (keys_of a.r)) k))
    (rw c.read-m.ensures at c.taken-cell.ensures) refl

-- `layout::looking::leaves_all` meets its contract. Assumes nothing.
use mathlib.Core.Path.{◌≡◌, sym, ◌∙◌}
use mathlib.Core.Bool.{true, true≢false}
use borrow.Author.Tests.{not-true}
use Rattle.layout.proofs.Left.{Alone, leaves_by}
use Rattle.layout.proofs.looking.leaves_all.Goals as goal
use Rattle.layout.proofs.looking.leaves_all.Goals.{then-not-rule, else-not-rule, then-alone+then-not-rule-2, then-alone+else-not-rule-2, else-alone}

pub returns-then-not-rule-3 : goal.returns-then-not-rule-3
returns-then-not-rule-3 c =
    let a = c.args in
    let first : c.if-not-rule.value ≡ true → a.rule.nch ≡ true → Alone a.b.now a.rule.but 0 =
    λ v t. elim c.if-not-rule.branch [ then-not-rule w ↦ absurd (true≢false (sym t ∙ not-true _ w.if-not-rule.true)) | else-not-rule w ↦ w.alone.ensures (sym w.value-is ∙ v) ]
    in
    λ e.
    elim c.if-alone.branch [
      | then-alone+then-not-rule-2 w ↦ leaves_by a.rule a.b.now (first w.if-alone.true) (λ t. absurd (true≢false (sym t ∙ not-true _ w.if-not-rule-2.true)))
          (λ t. absurd (true≢false (sym t ∙ not-true _ c.if-not-rule-3.true)))
      | then-alone+else-not-rule-2 w ↦ leaves_by a.rule a.b.now (first w.if-alone.true) (λ t. w.alone-else-not-rule-2.ensures (sym w.value-is ∙ c.if-alone-2.true))
          (λ t. absurd (true≢false (sym t ∙ not-true _ c.if-not-rule-3.true)))
      | else-alone w ↦ absurd (true≢false (sym c.if-alone-2.true ∙ w.value-is ∙ w.if-alone.false))
    ]

pub returns-else-not-rule-3 : goal.returns-else-not-rule-3
returns-else-not-rule-3 c =
    let a = c.args in
    let first : c.if-not-rule.value ≡ true → a.rule.nch ≡ true → Alone a.b.now a.rule.but 0 =
    λ v t. elim c.if-not-rule.branch [ then-not-rule w ↦ absurd (true≢false (sym t ∙ not-true _ w.if-not-rule.true)) | else-not-rule w ↦ w.alone.ensures (sym w.value-is ∙ v) ]
    in
    λ e.
    elim c.if-alone.branch [
      | then-alone+then-not-rule-2 w ↦ leaves_by a.rule a.b.now (first w.if-alone.true) (λ t. absurd (true≢false (sym t ∙ not-true _ w.if-not-rule-2.true)))
          (λ t. c.alone-else-not-rule-3.ensures e)
      | then-alone+else-not-rule-2 w ↦ leaves_by a.rule a.b.now (first w.if-alone.true) (λ t. w.alone-else-not-rule-2.ensures (sym w.value-is ∙ c.if-alone-2.true))
          (λ t. c.alone-else-not-rule-3.ensures e)
      | else-alone w ↦ absurd (true≢false (sym c.if-alone-2.true ∙ w.value-is ∙ w.if-alone.false))
    ]

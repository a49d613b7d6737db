-- `layout::looking::quiet` meets its contract. Assumes nothing.
use mathlib.Core.Path.{sym, ◌∙◌}
use borrow.Author.Tests.{eqb-true}
use Rattle.layout.proofs.NoneOut.{quiet_24}
use Rattle.layout.proofs.looking.quiet.Goals as goal
use Rattle.layout.proofs.looking.quiet.Goals.{then-u64_at-eq0, else-u64_at-eq0}

pub returns-then-u64_at-eq0-2 : goal.returns-then-u64_at-eq0-2
returns-then-u64_at-eq0-2 c =
    let a = c.args in
    λ e.
    elim c.if-u64_at-eq0.branch [
      | then-u64_at-eq0 w ↦ quiet_24 a.b.now a.at (sym c.u64_at.ensures ∙ w.if-u64_at-eq0.true)
          (sym w.u64_at-then-u64_at-eq0.ensures ∙ eqb-true _ _ (sym w.value-is ∙ c.if-u64_at-eq0-2.true)) (sym c.u64_at-then-u64_at-eq0-2.ensures ∙ eqb-true _ _ e)
      | else-u64_at-eq0 w ↦ absurd (w.if-u64_at-eq0.false (eqb-true _ _ (sym w.value-is ∙ c.if-u64_at-eq0-2.true)))
    ]

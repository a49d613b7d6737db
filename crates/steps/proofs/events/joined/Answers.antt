-- `steps::events::joined` meets its contract. Assumes nothing.
use mathlib.Core.Bool.{true}
use mathlib.Core.Path.{refl, ap, ◌∙◌}
use native.Mathlib.Omega.{arith}
use borrow.Author.Tests.{lt-leb, le-leb}
use Rattle.csn1.specs.declared.Refusal.{Refusal}
use Rattle.csn1.specs.Format.{ground}
use Rattle.receiver.specs.Model.{last_key, rule_for}
use Rattle.receiver.specs.Step.{joins}
use Rattle.steps.proofs.Entering.{is-late, is-refused, is-accepted}
use Rattle.steps.proofs.events.joined.Goals as goal

pub returns-then-is_late : goal.returns-then-is_late
returns-then-is_late c =
    c.refused.ensures
    ∙ is-late _ _ (joins c.args.key) c.is_late.ensures c.if-is_late.true c.ground.ensures

pub returns-then-key-gt-LAST_KEY : goal.returns-then-key-gt-LAST_KEY
unfolding ground
returns-then-key-gt-LAST_KEY c =
    let k = c.args.key in
    let g = c.ground-then-key-gt-LAST_KEY.ensures in
    c.refused-then-key-gt-LAST_KEY.ensures
    ∙ is-refused _ _ (joins k) c.is_late.ensures c.if-is_late.false (g ∙ rw (lt-leb k last_key (omega arith))) (λ e. omega (arith, ap (λ (y : Refusal). y.number) g))

pub returns : goal.returns
returns c =
    let a = c.args in
    let i = rw c.from.ensures at c.index_of-but.ensures in
    c.plain.ensures
    ∙ is-accepted a.r _ (joins a.key) c.is_late.ensures c.if-is_late.false (rw (le-leb a.key last_key (omega arith))) refl
    (c.join_rule.ensures ∙ ap (rule_for (λ x. true)) i) refl refl

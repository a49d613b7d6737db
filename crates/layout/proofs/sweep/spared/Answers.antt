-- `layout::sweep::spared` meets its contract. Assumes nothing.
use mathlib.Core.Path.{sym, ap, ◌∙◌}
use mathlib.Core.Bool.{Bool, true}
use lib.Dec.{eqb}
use Rattle.bits.specs.Field.{pick}
use Rattle.layout.proofs.Sweeps.{spares-on}
use Rattle.layout.proofs.sweep.spared.Goals as goal

pub returns-then-not-flag_of : goal.returns-then-not-flag_of
returns-then-not-flag_of c =
    let a = c.args in
    rw c.if-not-flag_of.true
    (sym (spares-on a.rule a.key a.ch c.requires ∙ ap (λ (b : Bool). pick b (eqb a.key a.rule.but) true) (sym c.flag_of.ensures ∙ c.if-not-flag_of.true)))

pub returns-else-not-flag_of : goal.returns-else-not-flag_of
returns-else-not-flag_of c =
    let a = c.args in
    sym (spares-on a.rule a.key a.ch c.requires ∙ ap (λ (b : Bool). pick b (eqb a.key a.rule.but) true) (sym c.flag_of.ensures ∙ c.if-not-flag_of.false))

-- `yard::settling::leaves` meets its contract. Assumes nothing.
use mathlib.Core.Path.{sym, ap, ◌∙◌}
use Rattle.layout.specs.Layout.{carries}
use Rattle.yard.specs.Octets.{call_no}
use Rattle.yard.proofs.Leaving.{leaves_yes, leaves_not, leaves-old}
use Rattle.yard.proofs.settling.leaves.Goals as goal

pub returns-then-all : goal.returns-then-all
returns-then-all c = let a = c.args in leaves_yes a.all a.time (call_no a.b.now a.i) c.if-all.true

pub returns-then-carries : goal.returns-then-carries
returns-then-carries c =
    let a = c.args in
    leaves-old a.b.now a.i a.time a.all c.if-all.false (ap carries (sym c.from.ensures) ∙ sym c.carries.ensures ∙ c.if-carries.true) _ _ c.u32_at.ensures c.elapsed.ensures

pub returns-else-carries : goal.returns-else-carries
returns-else-carries c =
    let a = c.args in
    c.if-carries.false ∙ leaves_not a.b.now a.i a.time a.all c.if-all.false (ap carries (sym c.from.ensures) ∙ sym c.carries.ensures ∙ c.if-carries.false)

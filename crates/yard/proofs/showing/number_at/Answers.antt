-- `yard::showing::number_at` meets its contract. Assumes nothing.
use mathlib.Core.Path.{ap₂, ◌∙◌}
use Prim.Native.Nat.{ℕ}
use Rattle.receiver.specs.Model.{wrap_sub}
use Rattle.yard.proofs.ShownCalls.{number-told, number-age, number-none, told_there}
use Rattle.yard.proofs.showing.number_at.Goals as goal

pub returns-then-part-lt-AGE : goal.returns-then-part-lt-AGE
returns-then-part-lt-AGE c = let a = c.args in c.told_part.ensures ∙ told_there a.b.now a.i a.part c.requires.0 c.requires.1 ∙ number-told a.b.now a.i a.part c.if-part-lt-AGE.true

pub returns-then-part-eq-AGE : goal.returns-then-part-eq-AGE
returns-then-part-eq-AGE c =
    let a = c.args in
    c.from.ensures ∙ c.elapsed.ensures ∙ ap₂ (λ (x y : ℕ). wrap_sub x y) c.u32_at.ensures c.u32_at-then-part-eq-AGE.ensures
    ∙ number-age a.b.now a.i a.part c.if-part-eq-AGE.true

pub returns : goal.returns
returns c = let a = c.args in number-none a.b.now a.i a.part c.if-part-lt-AGE.false c.if-part-eq-AGE.false

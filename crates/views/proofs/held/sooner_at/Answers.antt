-- `views::held::sooner_at` meets its contract. Assumes nothing.
use mathlib.Core.Path.{◌≡◌, sym, ◌∙◌}
use Prim.Native.Nat.{ℕ}
use Rattle.std.specs.Prelude.{min}
use lib.Dec.{ltb}
use native.Mathlib.Omega.{arith}
use borrow.Author.Tests.{ltb-true, ltb-false}
use Rattle.receiver.proofs.Cases.{by-test}
use Rattle.views.specs.Held.{sooner}
use Rattle.layout.proofs.States.{at_place}
use Rattle.views.proofs.Holding.{left-held}
use Rattle.views.proofs.held.sooner_at.Goals as goal

least : (a b : ℕ) → min a b ≡ sooner a b
least a b = by-test (ltb b a) (λ t. rw t (omega (arith, ltb-true b a t))) (λ t. rw t (omega (arith, ltb-false b a t)))

pub returns-then-holds : goal.returns-then-holds
returns-then-holds c =
    let a = c.args in
    let h = sym c.holds.ensures ∙ c.if-holds.true in
    let e = c.left_at.ensures ∙ at_place a.b.now a.i _ _ c.requires.0 c.requires.1 ∙ left-held a.b.now a.i h in
    rw (h, ← e) (c.min.ensures ∙ least a.least _)

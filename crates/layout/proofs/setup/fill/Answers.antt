-- `layout::setup::fill` meets its contract. Assumes nothing.
use mathlib.Core.Path.{ap, ◌∙◌}
use Prim.Native.Nat.{ℕ}
use native.Mathlib.Omega.{arith}
use lib.ListN.{replicate, length-set}
use borrow.Author.Rules.{rules}
use Rattle.layout.proofs.Setting.{filled}
use Rattle.layout.proofs.setup.fill.Goals as goal

pub put_u32-requires-5 : goal.put_u32-requires-5
put_u32-requires-5 c = simp length-set (search rules)

pub put_all-requires : goal.put_all-requires
put_all-requires c = omega (arith, simp length-set at c.put_u32-5.auto.b)

pub put_all-requires-2 : goal.put_all-requires-2
put_all-requires-2 c =
    let early = c.put_u32-4.auto.b ∙ c.put_u32-3.auto.b ∙ c.put_u32-2.auto.b ∙ c.put_u32.auto.b ∙ c.fill.auto.self ∙ c.requires.0 in
    omega (arith, c.put_all.auto.b, simp length-set at c.put_u32-5.auto.b, c.put_three.auto.b, early)

pub shape_of-b : goal.shape_of-b
shape_of-b c =
    let early = c.put_u32-4.auto.b ∙ c.put_u32-3.auto.b ∙ c.put_u32-2.auto.b ∙ c.put_u32.auto.b ∙ c.fill.auto.self in
    c.put_all-2.auto.b ∙ c.put_all.auto.b ∙ c.put_u32-5.auto.b ∙ simp length-set (c.put_three.auto.b ∙ early)

pub returns : goal.returns
returns c =
    filled c.args.s c.args.keys.now c.args.sets.now _ _ _ _ _ _ _ _ _ (c.fill.ensures.after (λ y e. e) ∙ ap (λ (n : ℕ). replicate n 0) c.requires.0)
    c.put_u32.ensures c.put_u32-2.ensures c.put_u32-3.ensures c.put_u32-4.ensures c.put_three.ensures c.put_u32-5.ensures
    c.put_all.ensures c.put_all-2.ensures

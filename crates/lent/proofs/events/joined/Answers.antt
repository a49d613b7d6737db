-- `lent::events::joined` meets its contract. Assumes nothing.
use mathlib.Core.Path.{refl, ap, ◌∙◌}
use mathlib.Core.Bool.{true}
use Prim.Native.Nat.{ℕ}
use Rattle.csn1.specs.Format.{ground}
use Rattle.receiver.specs.Channels.{key_count, Channel}
use Rattle.receiver.specs.Model.{index_of, rule_for}
use Rattle.receiver.specs.Count.{no_news}
use Rattle.receiver.specs.Step.{joining, plainly, joined}
use Rattle.layout.specs.Layout.{keys_in}
use Rattle.layout.proofs.States.{at-state}
use Rattle.lent.proofs.Feeding.{fed-early, whole-then, fed-refused, cell-then, fed-accepted, joined-out, joined_in, four}
use Rattle.lent.proofs.events.joined.Goals as goal

pub early-n-requires : goal.early-n-requires
early-n-requires c = tt

pub returns-then-n-ne0 : goal.returns-then-n-ne0
returns-then-n-ne0 c = let a = c.args in fed-early a.b.now (joined a.time a.key) _ c.early-n.ensures c.if-n-ne0.true

pub returns-then-key-gt-LAST_KEY : goal.returns-then-key-gt-LAST_KEY
returns-then-key-gt-LAST_KEY c =
    let a = c.args in
    fed-refused a.b.now (joined a.time a.key) _ c.early-n.ensures c.if-n-ne0.false (ground 4) (joined-out a.key c.if-key-gt-LAST_KEY.true) four.0 4 four.1

pub cell_of-cell-requires : goal.cell_of-cell-requires
cell_of-cell-requires c = tt

pub index_of-i-requires : goal.index_of-i-requires
index_of-i-requires c = tt

pub join_rule-requires : goal.join_rule-requires
join_rule-requires c = tt

pub accept-requires : goal.accept-requires
accept-requires c =
    let a = c.args in
    whole-then a.b.now (joined a.time a.key) _ c.early-n.ensures c.if-n-ne0.false

pub returns : goal.returns
returns c =
    let a = c.args in
    let l = a.b.now in
    let e = joined a.time a.key in
    let q = c.early-n.ensures in
    let z = c.if-n-ne0.false in
    let i = c.index_of-i.ensures ∙ at-state l (index_of (keys_in l) a.key) key_count (whole-then l e _ q z) in
    fed-accepted l e _ q z _ _ _ (joined_in a.key c.if-key-gt-LAST_KEY.false) (plainly (joining a.key) no_news) refl
    (c.join_rule.ensures ∙ ap (λ (x : ℕ). rule_for (λ (y : Channel). true) x) i) (cell-then l e _ q z _ c.cell_of-cell.ensures) c.accept.ensures

-- `lent::events::accept_facch` meets its contract. Assumes nothing.
use mathlib.Core.Path.{refl}
use mathlib.Core.List.{[], ◌∷◌}
use native.Mathlib.Omega.{arith}
use Rattle.receiver.specs.Model.{keep}
use Rattle.receiver.specs.Entries.{facch_entry}
use Rattle.lent.proofs.Feeding.{accepted-by, cell-behind}
use Rattle.lent.proofs.events.accept_facch.Goals as goal

pub pass-lost-requires : goal.pass-lost-requires
pass-lost-requires c = tt

pub cell_of-requires : goal.cell_of-requires
cell_of-requires c = tt

pub taken_over-cell-requires : goal.taken_over-cell-requires
taken_over-cell-requires c = tt

pub put_head-requires : goal.put_head-requires
put_head-requires c = tt

pub returns : goal.returns
returns c =
    let a = c.args in
    let l = a.b.now in
    rw (← cell-behind l a.time keep c.requires _ c.pass-lost.ensures.1.1 _ c.cell_of.ensures, ← c.taken_over-cell.ensures)
    (accepted-by l a.time keep _ 1 (facch_entry a.m ∷ []) c.requires (omega arith) _ _ _ _ _ 1 c.pass-lost.ensures (omega (arith, c.pass-lost.type_inv)) (omega (arith, c.pass-lost.type_inv)) refl
    (omega arith) c.tell_facch.ensures c.put_head.ensures)

-- `lent::events::accept_pch` meets its contract. Assumes nothing.
use mathlib.Core.Path.{refl}
use native.Mathlib.Omega.{arith}
use Rattle.receiver.specs.Entries.{pch_entries}
use Rattle.lent.proofs.Feeding.{accepted-by, cell-read}
use Rattle.lent.proofs.events.accept_pch.Goals as goal

pub cell_of-requires : goal.cell_of-requires
cell_of-requires c = tt

pub taken-cell-requires : goal.taken-cell-requires
taken-cell-requires c = tt

pub sweep-lost-requires : goal.sweep-lost-requires
sweep-lost-requires c = tt

pub put_head-requires : goal.put_head-requires
put_head-requires c = tt

pub returns : goal.returns
unfolding pch_entries
returns c =
    let a = c.args in
    let l = a.b.now in
    rw (← cell-read l c.requires _ c.cell_of.ensures, ← c.taken-cell.ensures)
    (accepted-by l a.time a.rule _ 2 (pch_entries a.p) c.requires (omega arith) _ _ _ _ _ 1 c.sweep-lost.ensures (omega (arith, c.sweep-lost.type_inv)) (omega (arith, c.sweep-lost.type_inv)) refl
    (omega arith) c.tell_pch.ensures c.put_head.ensures)

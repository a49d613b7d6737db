-- `lent::events::accept_bit` meets its contract. Assumes nothing.
use mathlib.Core.Path.{refl}
use mathlib.Core.List.{[]}
use native.Mathlib.Omega.{arith}
use Rattle.receiver.specs.Model.{keep}
use Rattle.lent.proofs.Feeding.{accepted-by, cell-behind}
use Rattle.lent.proofs.Tellings.{all_none}
use Rattle.lent.proofs.events.accept_bit.Goals as goal

pub pass-lost-requires : goal.pass-lost-requires
pass-lost-requires c = tt

pub cell_of-requires : goal.cell_of-requires
cell_of-requires c = tt

pub turned-cell-requires : goal.turned-cell-requires
turned-cell-requires c = tt

pub put_head-requires : goal.put_head-requires
put_head-requires c = tt

pub returns : goal.returns
returns c =
    let a = c.args in
    rw (← cell-behind a.b.now a.time keep c.requires _ c.pass-lost.ensures.1.1 _ c.cell_of.ensures, ← c.turned-cell.ensures)
    (accepted-by a.b.now a.time keep _ 0 [] c.requires (omega arith) _ _ _ _ _ 0 c.pass-lost.ensures (omega (arith, c.pass-lost.type_inv)) (omega (arith, c.pass-lost.type_inv)) refl
    (omega arith) (all_none _ _ 0 a.time) c.put_head.ensures)

-- `lent::events::accept` meets its contract. Assumes nothing.
use mathlib.Core.Path.{refl}
use mathlib.Core.List.{[]}
use native.Mathlib.Omega.{arith}
use Rattle.lent.proofs.Feeding.{accepted-by}
use Rattle.lent.proofs.Tellings.{all_none}
use Rattle.lent.proofs.events.accept.Goals as goal

pub sweep-lost-requires : goal.sweep-lost-requires
sweep-lost-requires c = tt

pub put_head-requires : goal.put_head-requires
put_head-requires c = tt

pub returns : goal.returns
returns c =
    let a = c.args in
    accepted-by a.b.now a.time a.rule a.cell 0 [] c.requires (omega arith) _ _ _ _ _ 0 c.sweep-lost.ensures (omega (arith, c.sweep-lost.type_inv)) (omega (arith, c.sweep-lost.type_inv)) refl
    (omega arith) (all_none _ _ 0 a.time) c.put_head.ensures

-- `lent::events::accept_page` meets its contract. Assumes nothing.
use mathlib.Core.Path.{refl}
use mathlib.Core.List.{[]}
use native.Mathlib.Omega.{arith}
use Rattle.receiver.specs.Model.{keep}
use Rattle.lent.proofs.Feeding.{accepted_with, cell-read}
use Rattle.lent.proofs.Tellings.{all_none}
use Rattle.lent.proofs.Outcomes.{rest-value}
use Rattle.lent.proofs.events.accept_page.Goals as goal

pub cell_of-requires : goal.cell_of-requires
cell_of-requires c = tt

pub taken_over-cell-requires : goal.taken_over-cell-requires
taken_over-cell-requires c = tt

pub pass-gone-requires : goal.pass-gone-requires
pass-gone-requires c = tt

pub paged_of-requires : goal.paged_of-requires
paged_of-requires c = tt

pub put_page-requires : goal.put_page-requires
put_page-requires c = tt

pub returns : goal.returns
returns c =
    let a = c.args in
    let l = a.b.now in
    rw (← cell-read l c.requires _ c.cell_of.ensures, ← c.taken_over-cell.ensures, ← c.paged_of.ensures)
    (accepted_with l a.time keep _ 1 [] c.requires (omega arith) _ (rest-value _ _ c.paged_of.type_inv) _ _ _ _ _ 0 c.pass-gone.ensures (omega (arith, c.pass-gone.type_inv))
    (omega (arith, c.pass-gone.type_inv)) refl
    (omega arith) (all_none _ _ 1 a.time) c.put_page.ensures)

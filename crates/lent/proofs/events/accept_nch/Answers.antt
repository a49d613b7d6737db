-- `lent::events::accept_nch` meets its contract. Assumes nothing.
use mathlib.Core.Path.{refl, ◌∙◌}
use native.Mathlib.Omega.{arith}
use Rattle.arrays.specs.Limits.{octet}
use Rattle.nch.specs.Places.{nln_at, cellcount_at}
use Rattle.nch.specs.NotificationNumbers.{most, release6_by, record_from, record_by}
use Rattle.nch.proofs.NotificationFits.{fits-at}
use Rattle.receiver.specs.Entries.{nch_entries}
use Rattle.lent.proofs.Feeding.{accepted-by, cell-read}
use Rattle.lent.proofs.events.accept_nch.Goals as goal

pub cell_of-last-requires : goal.cell_of-last-requires
cell_of-last-requires c = tt

pub overflow_cast-nln : goal.overflow_cast-nln
unfolding most
overflow_cast-nln c = omega (arith, fits-at _ c.requires.1.0 nln_at octet (omega arith) (omega arith) refl)

pub overflow_cast-cellcount : goal.overflow_cast-cellcount
unfolding most
overflow_cast-cellcount c =
    omega (arith, fits-at _ c.requires.1.0 cellcount_at octet (omega arith) (omega arith) refl)

pub nln_cell-requires : goal.nln_cell-requires
nln_cell-requires c = tt

pub taken-cell-requires : goal.taken-cell-requires
taken-cell-requires c = tt

pub nln_rule-requires : goal.nln_rule-requires
nln_rule-requires c = tt

pub sweep-lost-requires : goal.sweep-lost-requires
sweep-lost-requires c = tt

pub tell_nch-entries-requires : goal.tell_nch-entries-requires
tell_nch-entries-requires c =
    (c.sweep-lost.auto.b ∙ c.requires.0, c.requires.1.0)

pub put_head-requires : goal.put_head-requires
put_head-requires c = tt

pub returns : goal.returns
unfolding release6_by record_by
returns c =
    let a = c.args in
    let l = a.b.now in
    let t = c.tell_nch-entries.ensures in
    let p = c.requires in
    rw (← cell-read l p.0 _ c.cell_of-last.ensures, ← c.nln_rule.ensures, ← c.nln_cell.ensures, ← c.taken-cell.ensures)
    (accepted-by l a.time _ _ 0 (nch_entries (record_from a.m.now)) p.0 (omega arith) _ _ _ _ _ _ c.sweep-lost.ensures (omega (arith, c.sweep-lost.type_inv)) (omega (arith, c.sweep-lost.type_inv))
    t.0 (omega (arith, t.0, p.1.1)) t.1 c.put_head.ensures)

-- `lent::tell::tell_numbers` meets its contract. Assumes nothing.
use mathlib.Core.Path.{sym, ap, ◌∙◌}
use native.Mathlib.Omega.{arith}
use lib.Dec.{lit<}
use Rattle.receiver.specs.declared.Record.{Record}
use Rattle.receiver.specs.Model.{key_of}
use Rattle.lent.specs.Inner.{entry_from}
use Rattle.lent.proofs.FromNumbers.{key-from}
use Rattle.lent.proofs.Outcomes.{wide_value, telling-other, telling-ours, own-asked, own-met}
use Rattle.lent.proofs.tell.tell_numbers.Goals as goal

pub index_of-i-requires : goal.index_of-i-requires
index_of-i-requires c = tt

pub put_number-requires : goal.put_number-requires
put_number-requires c = tt

pub returns-then-i-ge-KEYS : goal.returns-then-i-ge-KEYS
returns-then-i-ge-KEYS c =
    let a = c.args in
    let p = c.requires in
    let f = p.1.1.1.1 in
    let k = key-from a.m.now a.full a.at a.random a.mark f.service in
    telling-other a.b.now a.cell 0 a.tick a.j _ (entry_from a.m.now a.full a.at a.random a.mark) _ k p.0 c.index_of-i.ensures _
    c.if-i-ge-KEYS.true p.1.0 (omega (arith, f.reference, f.service)) c.put_number.ensures

pub class-class-requires : goal.class-class-requires
class-class-requires c = tt

pub octets_of-o-requires : goal.octets_of-o-requires
octets_of-o-requires c = tt

pub ours-requires : goal.ours-requires
ours-requires c =
    let a = c.args in
    let p = c.requires in
    let k = key-from a.m.now a.full a.at a.random a.mark p.1.1.1.1.service ∙ ap (λ (r : Record). key_of r.call) (sym c.entry_at-e.ensures) in
    (p.0, (lit< tt, (p.1.0, (omega (arith, c.if-i-ge-KEYS.false), own-asked c.entry_at-e.result (wide_value _ _ c.entry_at-e.type_inv) _ c.octets_of-o.ensures 0 _ _ k c.class-class.ensures))))

pub returns : goal.returns
returns c =
    let a = c.args in
    let p = c.requires in
    let w = wide_value _ _ c.entry_at-e.type_inv in
    let k = key-from a.m.now a.full a.at a.random a.mark p.1.1.1.1.service ∙ ap (λ (r : Record). key_of r.call) (sym c.entry_at-e.ensures) in
    let m = own-met c.entry_at-e.result w _ c.octets_of-o.ensures a.b.now _ a.cell 0 a.tick a.j _ c.ours.ensures in
    rw (sym c.entry_at-e.ensures)
    (telling-ours a.b.now a.cell 0 a.tick a.j _ c.entry_at-e.result _ k p.0 c.index_of-i.ensures _ (omega (arith, c.if-i-ge-KEYS.false))
    (λ x. omega (arith, c.slice_known-1.given x)) (lit< tt) p.1.0 (omega arith) w m)

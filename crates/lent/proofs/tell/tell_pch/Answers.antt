-- `lent::tell::tell_pch` meets its contract. Assumes nothing.
use mathlib.Core.Path.{◌≡◌, sym, ap, ◌∙◌}
use native.Mathlib.Omega.{arith}
use lib.Dec.{lit<}
use Rattle.receiver.specs.declared.Record.{Record}
use Rattle.receiver.specs.Model.{key_of}
use Rattle.receiver.specs.Entries.{pch_entry, pch_entries}
use Rattle.lent.proofs.Tellings.{all_one-told}
use Rattle.lent.proofs.Outcomes.{wide_value, telling-other, telling-ours, own-asked, own-met}
use Rattle.lent.proofs.tell.tell_pch.Goals as goal

pub key_of-key-requires : goal.key_of-key-requires
key_of-key-requires c = tt

pub index_of-i-requires : goal.index_of-i-requires
index_of-i-requires c = tt

pub put_number-requires : goal.put_number-requires
put_number-requires c = tt

pub returns-then-i-ge-KEYS : goal.returns-then-i-ge-KEYS
unfolding pch_entry pch_entries
returns-then-i-ge-KEYS c =
    let a = c.args in
    let l = a.b.now in
    let e = pch_entry a.p in
    let t = telling-other l a.cell 2 a.tick 0 _ e _ c.key_of-key.ensures c.requires c.index_of-i.ensures _ c.if-i-ge-KEYS.true (lit< tt) (omega (arith, c.key_of-key.type_inv)) c.put_number.ensures in
    all_one-told l a.cell 2 a.tick e _ (lit< tt) t

pub pch_entry-e-requires : goal.pch_entry-e-requires
pch_entry-e-requires c = tt

pub class-class-requires : goal.class-class-requires
class-class-requires c = tt

pub octets_of-o-requires : goal.octets_of-o-requires
octets_of-o-requires c = tt

pub ours-requires : goal.ours-requires
unfolding pch_entry pch_entries
ours-requires c =
    let k = c.key_of-key.ensures ∙ ap (λ (r : Record). key_of r.call) (sym c.pch_entry-e.ensures) in (
      c.requires,
      (
        lit< tt,
        (
          lit< tt,
          (omega (arith, c.if-i-ge-KEYS.false), own-asked c.pch_entry-e.result (wide_value _ _ c.pch_entry-e.type_inv) _ c.octets_of-o.ensures 2 _ _ k c.class-class.ensures),
        ),
      ),
    )

pub returns : goal.returns
unfolding pch_entry pch_entries
returns c =
    let a = c.args in
    let l = a.b.now in
    let e = c.pch_entry-e.result in
    let w = wide_value _ _ c.pch_entry-e.type_inv in
    let k : c.key_of-key.result ≡ key_of e.call = c.key_of-key.ensures ∙ ap (λ (r : Record). key_of r.call) (sym c.pch_entry-e.ensures) in
    let m = own-met e w _ c.octets_of-o.ensures l _ a.cell 2 a.tick 0 _ c.ours.ensures in
    let t =
    telling-ours l a.cell 2 a.tick 0 _ e _ k c.requires c.index_of-i.ensures _ (omega (arith, c.if-i-ge-KEYS.false))
    (λ x. omega (arith, c.slice_known-1.given x)) (lit< tt) (lit< tt) (omega arith) w m
    in
    rw (sym c.pch_entry-e.ensures) (all_one-told l a.cell 2 a.tick e _ (lit< tt) t)

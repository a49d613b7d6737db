-- `steps::events::tell` meets its contract. Assumes nothing.
use mathlib.Core.Path.{ap, ◌∙◌}
use Rattle.receiver.specs.Model.{keys_of, with_slots}
use Rattle.steps.proofs.Entering.{miss-told, miss_slots, hit_told, hit_slots}
use native.Mathlib.Omega.{arith}
use Rattle.steps.proofs.events.tell.Goals as goal

pub returns-then-i-ge-KEYS : goal.returns-then-i-ge-KEYS
returns-then-i-ge-KEYS c =
    let a = c.args in
    let r = a.r.now in
    let i = c.index_of-i.ensures in (
      c.told_only.ensures ∙ miss-told (keys_of r) r.sets r.cell a.ch a.now r.slots a.e c.key_of-key.ensures i (omega arith),
      ap (with_slots r) (miss_slots (keys_of r) r.sets r.cell a.ch a.now r.slots a.e c.key_of-key.ensures i (omega arith)),
    )

pub returns : goal.returns
returns c =
    let a = c.args in
    let r = a.r.now in
    let q = c.place_on-at.ensures.0 in
    let m = rw q at c.meet-m.ensures in (
      c.told_as.ensures ∙ hit_told (keys_of r) r.sets r.cell a.ch a.now r.slots a.e c.key_of-key.ensures c.index_of-i.ensures (omega arith) m,
      rw q (ap (with_slots r) (hit_slots (keys_of r) r.sets r.cell a.ch a.now r.slots a.e c.key_of-key.ensures c.index_of-i.ensures (omega arith) m)),
    )

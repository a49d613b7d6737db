-- `yard::events::nch` meets its contract. Assumes nothing.
use mathlib.Core.Path.{refl, sym}
use native.Mathlib.Omega.{arith}
use Rattle.nch.specs.Told.{read_of}
use Rattle.receiver.specs.Count.{counting}
use Rattle.receiver.specs.Step.{nch}
use Rattle.layout.specs.Layout.{decode_of}
use Rattle.lent.proofs.Feeding.{cell-read}
use Rattle.yard.specs.Octets.{inside}
use Rattle.yard.proofs.Inside.{whole-inside}
use Rattle.yard.proofs.Feeding.{wrong_length, long-then, whole-then, inside-then-is, yard-refused, yard-accepted, cell-after, nln-changes}
use Rattle.yard.proofs.events.nch.Goals as goal

pub returns-then-b-ne-LENGTH : goal.returns-then-b-ne-LENGTH
returns-then-b-ne-LENGTH c = let a = c.args in wrong_length a.b.now (nch a.time a.octets.now) c.if-b-ne-LENGTH.true

pub slice_bounds-cell_of-end-2 : goal.slice_bounds-cell_of-end-2
slice_bounds-cell_of-end-2 c = sym (whole-inside c.args.b.now c.if-b-ne-LENGTH.false)

pub cell_of-before-requires : goal.cell_of-before-requires
cell_of-before-requires c = tt

pub slice_bounds-nch-end-2 : goal.slice_bounds-nch-end-2
slice_bounds-nch-end-2 c = sym (whole-inside c.args.b.now c.if-b-ne-LENGTH.false)

pub nch-n-requires : goal.nch-n-requires
nch-n-requires c = tt

pub returns-then-n-ne0 : goal.returns-then-n-ne0
returns-then-n-ne0 c =
    let a = c.args in
    yard-refused a.b.now (nch a.time a.octets.now) c.if-b-ne-LENGTH.false refl _ _ c.nch-n.ensures c.if-n-ne0.true

pub slice_bounds-cell_of-end-3 : goal.slice_bounds-cell_of-end-3
slice_bounds-cell_of-end-3 c =
    let a = c.args in
    omega (arith, long-then a.b.now (nch a.time a.octets.now) c.if-b-ne-LENGTH.false refl _ _ c.nch-n.ensures)

pub slice_bounds-cell_of-end-4 : goal.slice_bounds-cell_of-end-4
slice_bounds-cell_of-end-4 c =
    let a = c.args in
    sym (whole-then a.b.now (nch a.time a.octets.now) c.if-b-ne-LENGTH.false refl _ _ c.nch-n.ensures)

pub cell_of-after-requires : goal.cell_of-after-requires
cell_of-after-requires c = tt

pub settle-requires : goal.settle-requires
settle-requires c =
    let a = c.args in
    long-then a.b.now (nch a.time a.octets.now) c.if-b-ne-LENGTH.false refl _ _ c.nch-n.ensures

pub returns : goal.returns
returns c =
    let a = c.args in
    let l = a.b.now in
    let s = a.octets.now in
    let e = nch a.time s in
    let f = c.nch-n.ensures in
    let z = c.if-n-ne0.false in
    yard-accepted l e c.if-b-ne-LENGTH.false refl _ _ f z _
    (nln-changes (decode_of (inside l)).cell _ _ (read_of s).«record».hasNln (read_of s).«record».nln
    (counting (read_of s).«record».release6.hasCount (read_of s).«record».release6.cellcount)
    (cell-read (inside l) (whole-inside l c.if-b-ne-LENGTH.false) _ c.cell_of-before.ensures)
    (cell-after l e c.if-b-ne-LENGTH.false refl _ _ f z _ (inside-then-is l e c.if-b-ne-LENGTH.false refl _ _ f _ c.cell_of-after.ensures))
    _ c.has_changed.ensures)
    _ c.settle.ensures

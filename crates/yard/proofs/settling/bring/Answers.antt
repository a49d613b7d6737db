-- `yard::settling::bring` meets its contract. Assumes nothing.
use mathlib.Core.Path.{sym}
use Rattle.yard.proofs.Inside.{whole-inside}
use Rattle.yard.proofs.Coming.{brought_not, brought}
use Rattle.yard.proofs.settling.bring.Goals as goal

pub slice_bounds-place_for-end-2 : goal.slice_bounds-place_for-end-2
slice_bounds-place_for-end-2 c = sym (whole-inside c.args.b.now c.requires.0)

pub place_for-i-requires : goal.place_for-i-requires
place_for-i-requires c = whole-inside c.args.b.now c.requires.0

pub returns-then-i-ge-CALLS : goal.returns-then-i-ge-CALLS
returns-then-i-ge-CALLS c = brought_not c.args.b.now c.args.j _ c.place_for-i.ensures c.if-i-ge-CALLS.true

pub returns : goal.returns
returns c =
    brought c.args.b.now c.args.j _ c.place_for-i.ensures c.requires.0 c.if-i-ge-CALLS.false c.requires.1 _ _ c.copy.ensures c.copy-2.ensures

-- `trace::fields::side_by_side` meets its contract. Assumes nothing.
use mathlib.Core.Path.{ap, ◌∙◌}
use native.Mathlib.Omega.{arith}
use lib.ListN.{length}
use Rattle.trace.proofs.Rows.{side_begin, side_there, side_next, side_end, narrow_at}
use Rattle.trace.proofs.Steps.{listing-long}
use Rattle.trace.proofs.fields.side_by_side.Goals as goal

pub loop-i-init : goal.loop-i-init
loop-i-init c = side_begin

pub bounds-kinds-i : goal.bounds-kinds-i
bounds-kinds-i c =
    omega (arith, c.requires.1.many)

pub put-requires : goal.put-requires
put-requires c =
    (side_there c.loop-i.invariant (omega arith) c.requires.0, narrow_at c.args.widths.now c.loop-i.i c.requires.1.narrow, c.requires.2, omega arith)

pub overflow_add-at : goal.overflow_add-at
overflow_add-at c =
    omega (arith, side_there c.loop-i.invariant (omega arith) c.requires.0, c.requires.2)

pub loop-i-preserved : goal.loop-i-preserved
loop-i-preserved c =
    side_next c.loop-i.invariant (omega arith) c.requires.1.many c.put.ensures.1

pub shape_of-fields : goal.shape_of-fields
shape_of-fields c = ap length (side_end c.loop-i.invariant (omega arith)) ∙ listing-long _ _ _

pub returns : goal.returns
returns c = side_end c.loop-i.invariant (omega arith)

-- `trace::rest::reduceds` meets its contract. Assumes nothing.
use native.Mathlib.Omega.{arith}
use Rattle.trace.proofs.Tracing.{traced_long}
use Rattle.trace.proofs.Entries.{going_begin, going_end, going_less, going_more}
use Rattle.trace.proofs.rest.reduceds.Goals as goal

pub entries-init : goal.entries-init
entries-init c = going_begin _ _ _ _ c.requires

pub note-f-requires : goal.note-f-requires
note-f-requires c = (c.entries.invariant.bound, omega arith, omega arith)

pub reduced-u-requires : goal.reduced-u-requires
reduced-u-requires c =
    c.note-f.ensures.step.bound

pub entries-smaller : goal.entries-smaller
entries-smaller c =
    omega (arith, going_less _ _ _ _ c.entries.invariant c.note-f.ensures c.if-f-eq0.false c.reduced-u.ensures)

pub entries-preserved : goal.entries-preserved
entries-preserved c =
    going_more _ _ _ _ c.entries.invariant c.note-f.ensures c.if-f-eq0.false c.reduced-u.ensures

pub shape_of-fields : goal.shape_of-fields
shape_of-fields c =
    traced_long (going_end _ _ _ _ c.entries.invariant c.note-f.ensures c.if-f-eq0.true)

pub returns : goal.returns
returns c =
    going_end _ _ _ _ c.entries.invariant c.note-f.ensures c.if-f-eq0.true

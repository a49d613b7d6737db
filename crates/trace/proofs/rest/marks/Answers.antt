-- `trace::rest::marks` meets its contract. Assumes nothing.
use native.Mathlib.Omega.{arith}
use Rattle.trace.proofs.Tracing.{traced_noted, traced_long}
use Rattle.trace.proofs.Entries.{going_begin, going_end, going_less, going_more}
use Rattle.trace.proofs.rest.marks.Goals as goal

pub entries-init : goal.entries-init
entries-init c = going_begin _ _ _ _ c.requires

pub note-f-requires : goal.note-f-requires
note-f-requires c = (c.entries.invariant.bound, omega arith, omega arith)

pub note-m-requires : goal.note-m-requires
note-m-requires c =
    (c.note-f.ensures.step.bound, omega arith, omega arith)

pub entries-smaller : goal.entries-smaller
entries-smaller c =
    omega (arith, going_less _ _ _ _ c.entries.invariant c.note-f.ensures c.if-f-eq0.false (traced_noted c.note-m.ensures))

pub entries-preserved : goal.entries-preserved
entries-preserved c =
    going_more _ _ _ _ c.entries.invariant c.note-f.ensures c.if-f-eq0.false (traced_noted c.note-m.ensures)

pub shape_of-fields : goal.shape_of-fields
shape_of-fields c =
    traced_long (going_end _ _ _ _ c.entries.invariant c.note-f.ensures c.if-f-eq0.true)

pub returns : goal.returns
returns c =
    going_end _ _ _ _ c.entries.invariant c.note-f.ensures c.if-f-eq0.true

-- `trace::calls::allocation` meets its contract. Assumes nothing.
use Rattle.call.specs.Call.{one_to_eight}
use Rattle.trace.proofs.Tracing.{traced_noted, one-to-low, one-to-high, one-to-right, length_wrong, length-right}
use Rattle.trace.proofs.calls.allocation.Goals as goal

pub returns-then-octets-lt1 : goal.returns-then-octets-lt1
returns-then-octets-lt1 c =
    length_wrong one_to_eight _ c.requires c.note-n.ensures (one-to-low _ 8 c.if-octets-lt1.true) c.stop.ensures

pub returns-then-octets-gt8 : goal.returns-then-octets-gt8
returns-then-octets-gt8 c =
    length_wrong one_to_eight _ c.requires c.note-n.ensures (one-to-high _ 8 c.if-octets-lt1.false c.if-octets-gt8.true) c.stop-then-octets-gt8.ensures

pub returns : goal.returns
returns c =
    length-right one_to_eight _ c.requires c.note-n.ensures (one-to-right _ 8 c.if-octets-lt1.false c.if-octets-gt8.false) (traced_noted c.note-a.ensures)

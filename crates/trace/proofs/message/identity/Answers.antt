-- `trace::message::identity` meets its contract. Assumes nothing.
use Rattle.facch.specs.Message.{one_to_nine, octets}
use Rattle.trace.proofs.Tracing.{one-to-low, one-to-high, one-to-right, length_wrong, length-right}
use Rattle.trace.proofs.message.identity.Goals as goal

pub returns-then-octets-lt1 : goal.returns-then-octets-lt1
returns-then-octets-lt1 c =
    length_wrong one_to_nine _ c.requires c.note-n.ensures (one-to-low _ 9 c.if-octets-lt1.true) c.stop.ensures

pub returns-then-octets-gt9 : goal.returns-then-octets-gt9
returns-then-octets-gt9 c =
    length_wrong one_to_nine _ c.requires c.note-n.ensures (one-to-high _ 9 c.if-octets-lt1.false c.if-octets-gt9.true) c.stop-then-octets-gt9.ensures

pub returns : goal.returns
returns c =
    length-right one_to_nine octets c.requires c.note-n.ensures (one-to-right _ 9 c.if-octets-lt1.false c.if-octets-gt9.false) c.row.ensures

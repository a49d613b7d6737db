-- `layout::places::half_at` meets its contract. Assumes nothing.
use mathlib.Core.Path.{sym}
use Rattle.receiver.specs.Channels.{places}
use Rattle.layout.proofs.States.{in_none, no_such, at_place}
use Rattle.layout.proofs.places.half_at.Goals as goal

pub returns-then-b-ne-LENGTH : goal.returns-then-b-ne-LENGTH
returns-then-b-ne-LENGTH c = sym (in_none c.args.b.now places c.args.i _ _ c.if-b-ne-LENGTH.true)

pub returns-then-i-ge-PLACES : goal.returns-then-i-ge-PLACES
returns-then-i-ge-PLACES c = sym (no_such c.args.b.now places c.args.i _ _ c.if-b-ne-LENGTH.false c.if-i-ge-PLACES.true)

pub returns : goal.returns
returns c = sym (at_place c.args.b.now c.args.i _ _ c.if-b-ne-LENGTH.false c.if-i-ge-PLACES.false)

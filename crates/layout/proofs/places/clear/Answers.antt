-- `layout::places::clear` meets its contract. Assumes nothing.
use mathlib.Core.Path.{sym, ◌∙◌}
use Rattle.receiver.specs.Channels.{places}
use Rattle.layout.proofs.States.{in_none, no_such, at_place}
use Rattle.layout.proofs.places.clear.Goals as goal

pub returns-then-b-ne-LENGTH : goal.returns-then-b-ne-LENGTH
returns-then-b-ne-LENGTH c = let a = c.args in sym (in_none a.b.now places a.i _ _ c.if-b-ne-LENGTH.true)

pub returns-then-i-ge-PLACES : goal.returns-then-i-ge-PLACES
returns-then-i-ge-PLACES c = let a = c.args in sym (no_such a.b.now places a.i _ _ c.if-b-ne-LENGTH.false c.if-i-ge-PLACES.true)

pub returns : goal.returns
returns c =
    let a = c.args in
    c.empty.ensures ∙ sym (at_place a.b.now a.i _ _ c.if-b-ne-LENGTH.false c.if-i-ge-PLACES.false)

-- `layout::places::set_at` meets its contract. Assumes nothing.
use mathlib.Core.Path.{sym, ◌∙◌}
use Rattle.receiver.specs.Channels.{key_count}
use Rattle.layout.proofs.States.{in_none, no_such, at_one}
use Rattle.layout.proofs.places.set_at.Goals as goal

pub returns-then-b-ne-LENGTH : goal.returns-then-b-ne-LENGTH
returns-then-b-ne-LENGTH c = let a = c.args in sym (in_none a.b.now key_count a.i _ _ c.if-b-ne-LENGTH.true)

pub returns-then-i-ge-KEYS : goal.returns-then-i-ge-KEYS
returns-then-i-ge-KEYS c = let a = c.args in sym (no_such a.b.now key_count a.i _ _ c.if-b-ne-LENGTH.false c.if-i-ge-KEYS.true)

pub returns : goal.returns
returns c = let a = c.args in c.u32_at.ensures ∙ sym (at_one a.b.now key_count a.i _ _ c.if-b-ne-LENGTH.false c.if-i-ge-KEYS.false)

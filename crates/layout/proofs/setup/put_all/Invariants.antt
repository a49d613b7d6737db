-- What the loop of `layout::setup::put_all` keeps.
use mathlib.Core.Path.{◌≡◌}
use lib.ListN.{take}
use Rattle.arrays.specs.Runs.{stored}
use Rattle.receiver.specs.Channels.{key_count}
use Rattle.csn1.specs.Told.{padded}
use Rattle.layout.specs.Layout.{keys_octets}
use Rattle.layout.proofs.setup.put_all.Given as goal

abbrev pub invariant-loop-i : goal.invariant-loop-i
invariant-loop-i l = l.b ≡ stored l.initial.b l.at (keys_octets (take l.i (padded l.unused key_count l.numbers)))

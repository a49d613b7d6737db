-- `uplink_lent::numbers::put` meets its contract. Assumes nothing.
use mathlib.Core.Path.{ap, ◌∙◌}
use native.Mathlib.Omega.{arith}
use Rattle.arrays.specs.Runs.{stored}
use Rattle.uplink_lent.specs.Inner.{low_octets}
use Rattle.uplink_lent.proofs.Standing.{turned-octets}
use Rattle.uplink_lent.proofs.numbers.put.Goals as goal

pub returns : goal.returns
returns c =
    let a = c.args in
    c.put_low_first.ensures ∙ ap (stored _ a.i) (ap low_octets c.turned.ensures ∙ turned-octets a.v (omega arith))

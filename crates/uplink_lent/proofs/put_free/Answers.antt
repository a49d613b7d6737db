-- `uplink_lent::put_free` meets its contract. Assumes nothing.
use mathlib.Core.Path.{sym}
use Rattle.uplink_lent.proofs.Standing.{stands-still}
use Rattle.uplink_lent.proofs.put_free.Goals as goal

pub returns-then-stays : goal.returns-then-stays
returns-then-stays c =
    let a = c.args in
    sym (stands-still a.b.now 8 a.free (c.requires.1 c.if-stays.true))

pub returns : goal.returns
returns c = c.put.ensures

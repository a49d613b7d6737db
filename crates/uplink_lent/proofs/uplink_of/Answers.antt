-- `uplink_lent::uplink_of` meets its contract. Assumes nothing.
use native.Mathlib.Omega.{arith}
use Rattle.uplink_lent.specs.State.{uplink_of}
use Rattle.uplink_lent.proofs.Standing.{stands-field}
use Rattle.uplink_lent.proofs.uplink_of.Goals as goal

pub returns : goal.returns
unfolding uplink_of
returns c =
    let l = c.args.b.now in
    let p = stands-field l 0 c.number_at.result (omega arith) c.number_at.ensures in
    let q = stands-field l 4 c.number_at-2.result (omega arith) c.number_at-2.ensures in
    let r = stands-field l 8 c.number_at-3.result (omega arith) c.number_at-3.ensures in
    let s = stands-field l 12 c.number_at-4.result (omega arith) c.number_at-4.ensures in
    (λ i. record { tick = p i; t3128 = q i; free = r i; wait = s i }, c.number_at-3.ensures)

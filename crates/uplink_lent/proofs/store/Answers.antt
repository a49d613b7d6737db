-- `uplink_lent::store` meets its contract. Assumes nothing.
use native.Mathlib.Omega.{arith}
use Rattle.uplink_lent.proofs.Standing.{all_put, stands_twice}
use Rattle.uplink_lent.proofs.store.Goals as goal

pub put_free-requires : goal.put_free-requires
put_free-requires c =
    let a = c.args in (
      omega arith,
      λ t. stands_twice a.b.now _ _ a.u.tick a.u.t3128 a.u.free c.put.ensures c.put-2.ensures (c.requires.1 t),
    )

pub returns : goal.returns
returns c =
    let a = c.args in
    all_put a.u (record { tick = omega arith; timer = omega arith; free = omega arith; wait = omega arith }) a.b.now _ _ _ _ c.requires.0 c.put.ensures
    c.put-2.ensures c.put_free.ensures c.put-3.ensures

-- The octets of an uplink are a state; the numbers of a result are small. Assumes nothing.
use mathlib.Core.Path.{◌≡◌}
use Prim.Native.Nat.{◌<◌}
use native.Mathlib.Omega.{arith}
use lib.ListN.{length, length-replicate}
use Rattle.bits.proofs.Laws.{length-set_field}
use Rattle.uplink.specs.declared.Uplink.{Uplink}
use Rattle.uplink.specs.declared.End.{End}
use Rattle.uplink.specs.declared.Told.{Told}
use Rattle.uplink_lent.specs.State.{uplink_length, octets_of, end_number, told_number}

-- ## The octets of an uplink

pub length-octets : (u : Uplink) → length (octets_of u) ≡ uplink_length
unfolding octets_of
length-octets u = simp (length-set_field, length-replicate)

-- ## The numbers of a result

pub small-end : (e : End) → end_number e < 3
small-end End.Nothing = omega arith
small-end End.Granted = omega arith
small-end End.Rejected = omega arith

pub small-told : (t : Told) → told_number t < 5
small-told Told.Nothing = omega arith
small-told Told.Granted = omega arith
small-told Told.Waiting = omega arith
small-told Told.AlreadyWaiting = omega arith

-- What the loops of `bits::put_octets` keep, and why they end.
use mathlib.Core.Path.{◌≡◌}
use Prim.Native.Nat.{◌+◌, ◌-◌, ◌*◌, ◌/◌, ◌^◌, ◌≤◌}
use Rattle.bits.specs.Field.{set_field}
use Rattle.bits.proofs.put_octets.Given as goal

abbrev pub invariant-loop-done : goal.invariant-loop-done
invariant-loop-done l = (l.done ≤ l.width) × (l.buf ≡ set_field l.initial.buf (l.first * 8 + l.skip) l.done (l.v / 2 ^ (l.width - l.done)))

abbrev pub decreases-loop-done : goal.decreases-loop-done
decreases-loop-done l = l.width - l.done

-- What the loops of `layout::places::place_in` keep, and why they end.
use Prim.Native.Nat.{◌≤◌}
use Rattle.receiver.specs.Channels.{key_count}
use Rattle.layout.specs.Layout.{keys_in}
use Rattle.layout.proofs.Finding.{Halfway}
use Rattle.layout.proofs.places.place_in.Given as goal

abbrev pub invariant-loop-most : goal.invariant-loop-most
invariant-loop-most l = (l.start ≤ key_count) × ((l.end ≤ key_count) × Halfway (keys_in l.b) l.key l.start l.end l.most)

abbrev pub decreases-loop-most : goal.decreases-loop-most
decreases-loop-most l = l.most

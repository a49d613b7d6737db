-- What the loop of `layout::looking::none_held` keeps.
use mathlib.Core.Path.{◌≡◌}
use Prim.Native.Nat.{ℕ, ◌≤◌, ◌<◌}
use lib.ListN.{get_or}
use Rattle.receiver.specs.Channels.{place_on}
use Rattle.layout.specs.Layout.{kind_place}
use Rattle.layout.proofs.looking.none_held.Given as goal

abbrev pub invariant-loop-key : goal.invariant-loop-key
invariant-loop-key l = l.all ≡ 0 → (k : ℕ) → l.from ≤ k → k < l.key → get_or l.b (kind_place (place_on k l.ch)) 0 ≡ 0

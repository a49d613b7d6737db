-- What the loop of `views::held::next_expiry` keeps.
use mathlib.Core.Path.{◌≡◌}
use mathlib.Core.List.{map}
use Rattle.layout.specs.Layout.{decode_of}
use Rattle.views.specs.Held.{left_of, least_of, least_left}
use Rattle.views.proofs.Holding.{rest}
use Rattle.views.proofs.held.next_expiry.Given as goal

abbrev pub invariant-loop-i : goal.invariant-loop-i
invariant-loop-i l = least_of l.least (map (left_of (decode_of l.b)) (rest l.b l.i)) ≡ least_left (decode_of l.b)

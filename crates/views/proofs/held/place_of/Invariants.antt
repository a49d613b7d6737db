-- What the loop of `views::held::place_of` keeps.
use mathlib.Core.Path.{◌≡◌}
use Rattle.layout.specs.Layout.{decode_of}
use Rattle.views.specs.Held.{numbers_no}
use Rattle.views.proofs.Holding.{rest, numbers_in}
use Rattle.views.proofs.held.place_of.Given as goal

abbrev pub invariant-loop-i : goal.invariant-loop-i
invariant-loop-i l = numbers_no (decode_of l.b) l.n ≡ numbers_in l.b (rest l.b l.i) l.ahead

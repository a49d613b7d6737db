-- What is promised of a state as a host sees it. Assumes nothing.
use Rattle.std.specs.Prelude.{◌≡◌, List, ℕ, ◌+◌, ◌<◌}
use Rattle.receiver.specs.Step.{Event}
use Rattle.layout.specs.Octets.{octet_at}
use Rattle.layout.specs.Layout.{mark_from}
use Rattle.lent.specs.Events.{octets_after}

-- ## 1. The mark of a setup

-- No event, accepted or refused, changes one of the mark's four octets.
abbrev pub AnEventLeavesTheMark : Type 0
AnEventLeavesTheMark = (l : List ℕ) (e : Event) (j : ℕ) → j < 4 → octet_at (octets_after l e) (mark_from + j) ≡ octet_at l (mark_from + j)

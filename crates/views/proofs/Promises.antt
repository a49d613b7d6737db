-- The promises of specs/Promises. Assumes nothing.
use Rattle.views.specs.Promises.{AnEventLeavesTheMark}
use Rattle.views.proofs.Marks.{mark_stays}

pub an_event_leaves_the_mark : AnEventLeavesTheMark
an_event_leaves_the_mark = mark_stays

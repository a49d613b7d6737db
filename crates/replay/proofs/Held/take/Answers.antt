-- `replay::Held::take` is safe and ends: no more is taken than is there. Assumes nothing.
use Rattle.std.proofs.Common.{arith}
use Rattle.replay.proofs.Taking.{taken-within}
use Rattle.replay.proofs.Held.take.Goals as goal

pub slice_bounds-rest-count : goal.slice_bounds-rest-count
slice_bounds-rest-count c = taken-within _ c.loop-rest.rest.now _ c.feed-f.result _ _ _ c.feed-f.ensures

pub slice_bounds-rest-start : goal.slice_bounds-rest-start
slice_bounds-rest-start c =
    let w = taken-within _ c.loop-rest.rest.now _ c.feed-f.result _ _ _ c.feed-f.ensures in
    omega arith

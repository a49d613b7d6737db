-- The number stays below 2^32.
use Rattle.std.proofs.Common.{◌<◌}
use Rattle.receiver_events.proofs.number.Given as goal

abbrev pub invariant-loop-c : goal.invariant-loop-c
invariant-loop-c l = l.n < 4294967296

-- As many keys are read as there were turns.
use Rattle.std.proofs.Common.{◌≡◌, ◌≤◌, length}
use Rattle.receiver_events.proofs.started.Given as goal

abbrev pub invariant-loop-key : goal.invariant-loop-key
invariant-loop-key l = (l.n ≡ l.key-index) × (l.at ≤ length l.line)

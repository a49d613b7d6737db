-- What is gathered before octet i, with what is left, is the whole.
use Rattle.std.proofs.Common.{◌≡◌, ◌≤◌, length, drop}
use Rattle.capture.specs.Machine.{kept_length}
use Rattle.capture.specs.Inner.{further, gathering}
use Rattle.capture.proofs.fields.gather.Given as goal

abbrev pub invariant-loop-i : goal.invariant-loop-i
invariant-loop-i l = (l.i ≤ length l.piece) × (length l.kept ≡ kept_length) × (gathering l.initial.kept l.got l.piece ≡ further l.i (gathering l.kept l.have (drop l.i l.piece)))

-- The digits still to write, and then those written, are the digits of n.
use mathlib.Core.Path.{◌≡◌}
use mathlib.Core.List.{◌++◌}
use lib.ListN.{length, drop}
use Rattle.text.specs.Inner.{last_digits}
use Rattle.text.proofs.number.put_digits.Given as goal

abbrev pub invariant-loop-i : goal.invariant-loop-i
invariant-loop-i l = last_digits l.base l.i l.rest ++ drop l.i l.digits ≡ last_digits l.base (length l.initial.digits) l.n

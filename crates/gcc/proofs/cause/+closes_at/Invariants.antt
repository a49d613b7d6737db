-- Why the calls of `gcc::cause::closes_at` end: what is left falls.
use Rattle.gcc.proofs.cause.+closes_at.Given as goal

abbrev pub decreases-closes_at : goal.decreases-closes_at
decreases-closes_at l = l.left

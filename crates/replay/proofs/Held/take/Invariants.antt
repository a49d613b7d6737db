-- What is left to take of the piece gets shorter.
use lib.ListN.{length}
use Rattle.replay.proofs.Held.take.Given as goal

abbrev pub decreases-loop-rest : goal.decreases-loop-rest
decreases-loop-rest l = length l.rest

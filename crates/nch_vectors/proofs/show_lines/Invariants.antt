-- The text that is left gets shorter by a line.
use lib.ListN.{length}
use Rattle.nch_vectors.proofs.show_lines.Given as goal

abbrev pub decreases-loop-end : goal.decreases-loop-end
decreases-loop-end l = length l.rest

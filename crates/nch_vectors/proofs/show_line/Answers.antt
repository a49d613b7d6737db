-- `nch_vectors::show_line` meets its contract. Assumes nothing.
use lib.ListN.{length-take}
use native.Mathlib.Omega.{arith}
use Rattle.nch_vectors.proofs.show_line.Goals as goal

pub slice_bounds-show_message-end : goal.slice_bounds-show_message-end
slice_bounds-show_message-end c = simp length-take (omega arith)

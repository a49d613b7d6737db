-- `facch_vectors::show_line` meets its contract. Assumes nothing.
use lib.ListN.{length-take}
use native.Mathlib.Omega.{arith}
use Rattle.facch_vectors.proofs.show_line.Goals as goal

pub slice_bounds-show_message-end : goal.slice_bounds-show_message-end
slice_bounds-show_message-end c = simp length-take (omega arith)

pub show_message-requires : goal.show_message-requires
show_message-requires c = simp length-take (omega arith)

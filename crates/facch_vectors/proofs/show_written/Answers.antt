-- `facch_vectors::show_written` meets its contract. Assumes nothing.
use mathlib.Core.Path.{◌≡◌, sym}
use mathlib.Core.List.{List, ◌++◌}
use Prim.Native.Nat.{ℕ, ◌≤◌}
use lib.ListN.{length, take, drop, replicate, length-take, length-append}
use lib.Seq.{length-take-le}
use native.Mathlib.Omega.{arith}
use Rattle.facch_vectors.proofs.show_written.Goals as goal

-- what was lent came back as long as it was
room : (n : ℕ) (z w : List ℕ) → n ≤ length z → length w ≡ length (take n z) → n ≤ length (w ++ drop n z)
room n z w h e = simp length-append (omega (arith, e, length-take-le n z h))

pub slice_bounds-write-end : goal.slice_bounds-write-end
slice_bounds-write-end c = simp length-take (omega arith)

pub slice_bounds-back-end-2 : goal.slice_bounds-back-end-2
slice_bounds-back-end-2 c =
    room c.args.n (replicate 64 0) c.write-w.new.buffer c.requires c.write-w.auto.buffer

pub slice_bounds-show_octets-end : goal.slice_bounds-show_octets-end
slice_bounds-show_octets-end c =
    let w = c.write-w.new.buffer in
    let n = c.args.n in
    sym (length-take-le n (w ++ drop n (replicate 64 0)) (room n (replicate 64 0) w c.requires c.write-w.auto.buffer))

-- `layout::octets::put_u32` meets its contract. Assumes nothing.
use native.Mathlib.Nat.{div-div-eq-div-mul}
use native.Mathlib.Numerals.{towards_suc}
use Rattle.arrays.specs.Runs.{stored}
use Rattle.layout.specs.Octets.{low_octets}
use Rattle.layout.proofs.octets.put_u32.Goals as goal

pub returns : goal.returns
unfolding low_octets stored
returns c = rw c.to_le_bytes-o.ensures (simp (towards_suc, div-div-eq-div-mul))

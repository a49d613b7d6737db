-- `layout::places::put` meets its contract. Assumes nothing.
use mathlib.Core.Path.{ap, ◌∙◌}
use mathlib.Core.List.{List}
use Prim.Native.Nat.{ℕ}
use native.Mathlib.Omega.{arith}
use lib.ListN.{length-set}
use Rattle.arrays.specs.Runs.{stored}
use Rattle.layout.specs.Layout.{record_octets, record_place, put_slot}
use Rattle.layout.proofs.places.put.Goals as goal

pub put_u32-requires : goal.put_u32-requires
put_u32-requires c = simp length-set (omega (arith, c.requires))

pub put_record-requires : goal.put_record-requires
put_record-requires c = omega (arith, c.requires, simp length-set at c.put_u32.auto.b)

pub shape_of-b : goal.shape_of-b
shape_of-b c = c.put_record.auto.b ∙ c.put_u32.auto.b ∙ simp length-set

pub returns : goal.returns
unfolding put_slot
returns c =
    let a = c.args in
    c.put_record.ensures ∙ ap (λ (l : List ℕ). stored l (record_place a.i) (record_octets a.e)) c.put_u32.ensures

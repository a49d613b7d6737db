-- `pen::octets::four` meets its contract. Assumes nothing.
use mathlib.Core.Path.{refl}
use Prim.Native.Nat.{◌+◌, ◌/◌, ◌^◌}
use Rattle.pen.proofs.Digits.{set_twice}
use Rattle.pen.proofs.octets.four.Goals as goal

pub returns : goal.returns
returns c =
    let a = c.args in
    set_twice a.octets.now c.two.new.octets c.two-2.new.octets a.i 2 2 (a.i + 2) a.v (a.v / 2 ^ 16) c.two.ensures c.two-2.ensures refl refl

-- `pen::octets::eight` meets its contract. Assumes nothing.
use mathlib.Core.Path.{refl}
use Prim.Native.Nat.{◌+◌, ◌/◌, ◌^◌}
use Rattle.pen.proofs.Digits.{set_twice}
use Rattle.pen.proofs.octets.eight.Goals as goal

pub returns : goal.returns
returns c =
    let a = c.args in
    set_twice a.octets.now c.four.new.octets c.four-2.new.octets a.i 4 4 (a.i + 4) a.v (a.v / 2 ^ 32) c.four.ensures c.four-2.ensures refl refl

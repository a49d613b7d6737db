-- `pen::octets::two` meets its contract. Assumes nothing.
use mathlib.Core.Path.{ap}
use Prim.Native.Nat.{ℕ, ◌/◌, ◌%◌}
use native.Mathlib.Numerals.{add-one}
use lib.ListN.{set, length-set}
use Rattle.pen.specs.Inner.{digits}
use native.Mathlib.Omega.{arith}
use Rattle.pen.proofs.octets.two.Goals as goal

pub bounds-octets-i-2 : goal.bounds-octets-i-2
bounds-octets-i-2 c = omega (arith, length-set c.args.octets.now c.args.i (c.args.v / 256 % 256))

pub returns : goal.returns
unfolding digits
returns c =
    ap (λ (k : ℕ). set (set c.args.octets.now c.args.i (c.args.v / 256 % 256)) k (c.args.v % 256)) (add-one c.args.i)

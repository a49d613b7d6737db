-- `yard::settling::entries` meets its contract. Assumes nothing.
use native.Mathlib.Omega.{arith}
use Rattle.yard.proofs.Quiet.{none-behind}
use Rattle.yard.proofs.settling.entries.Goals as goal

pub returns : goal.returns
returns c =
    let n = c.min.ensures in
    (omega (arith, n), λ j h k. none-behind c.args.r.now c.requires c.part_of.result c.part_of.ensures j (omega (arith, n, h, k)) k)

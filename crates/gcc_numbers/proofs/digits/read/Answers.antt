-- `gcc_numbers::digits::read` meets its contract. Assumes nothing.
use mathlib.Core.Path.{refl}
use lib.ListN.{length}
use native.Mathlib.Omega.{arith}
use Rattle.gcc_numbers.proofs.Octets.{widened}
use Rattle.gcc_numbers.proofs.digits.read.Goals as goal

pub widen-requires : goal.widen-requires
widen-requires c = omega arith

pub returns : goal.returns
returns c =
    let ns = c.args.numbers.now in
    rw (← c.read-m.ensures) (refl, widened (length ns) _ _ _ ns c.clear.ensures c.widen.ensures)

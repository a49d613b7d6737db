-- `layout::places::key_count` meets its contract. Assumes nothing.
use native.Mathlib.Omega.{arith}
use Rattle.layout.proofs.Finding.{count_of}
use Rattle.layout.proofs.places.key_count.Goals as goal

pub returns : goal.returns
returns c = omega (arith, count_of c.args.b.now)

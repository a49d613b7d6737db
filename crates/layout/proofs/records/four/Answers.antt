-- `layout::records::four` meets its contract. Assumes nothing.
use native.Mathlib.Omega.{arith}
use Rattle.layout.proofs.Packing.{four-octets}
use Rattle.layout.proofs.records.four.Goals as goal

pub returns : goal.returns
returns c = four-octets c.args.p c.args.q c.args.r c.args.s (omega arith) (omega arith) (omega arith) (omega arith)

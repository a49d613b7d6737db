-- `bits::ahead` meets its contract. Assumes nothing.
use mathlib.Core.Path.{sym}
use Rattle.bits.proofs.Octets.{cut-first, cut-none}
use native.Mathlib.Omega.{arith}
use Rattle.bits.proofs.ahead.Goals as goal

pub returns-then-v-eq0 : goal.returns-then-v-eq0
returns-then-v-eq0 c =
    let a = c.args in
    sym (cut-none a.s.now a.at a.width c.eight-v.result (omega arith) (omega arith) c.eight-v.ensures)

pub returns : goal.returns
returns c =
    let a = c.args in
    cut-first a.s.now a.at a.width c.eight-v.result (omega arith) c.eight-v.ensures

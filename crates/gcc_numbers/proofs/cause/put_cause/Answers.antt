-- `gcc_numbers::cause::put_cause` meets its contract. Assumes nothing.
use Rattle.gcc_numbers.proofs.CauseNumbers.{parts_put}
use native.Mathlib.Omega.{arith}
use Rattle.gcc_numbers.proofs.cause.put_cause.Goals as goal

pub put_part-requires : goal.put_part-requires
put_part-requires c = omega arith

pub put_part-requires-2 : goal.put_part-requires-2
put_part-requires-2 c = omega arith

pub returns : goal.returns
returns c =
    let a = c.args in
    parts_put a.numbers.now _ _ a.cause.septets a.cause.diagnostics a.cause.count a.cause.size (omega arith)
    c.put_part.ensures c.put_part-2.ensures

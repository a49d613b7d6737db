-- `gcc_numbers::cause::put_part` meets its contract. Assumes nothing.
use Rattle.gcc_numbers.proofs.Octets.{put_then}
use Rattle.gcc_numbers.proofs.cause.put_part.Goals as goal

pub returns : goal.returns
returns c =
    let a = c.args in
    put_then a.numbers.now _ _ a.octets.now a.at a.count c.put.ensures c.widen.ensures
